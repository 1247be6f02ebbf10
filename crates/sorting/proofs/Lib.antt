-- The tree that every proof of an order asks for.
mod TreeLaws
-- Lists that stand in order already, and lists that are sorted by keys.
mod StandingLaws
mod AuthoredLaws
-- A node against each lower one, and its place among them.
mod PlacingAnswers
mod PlacingLaws
-- Sorting by insertion against the definitions; the loops over one part; one node's children; all
-- child lists in one array; and a cycle of three.
mod InsertionLaws
mod SortedParts
mod GatheringLaws
mod SortingLaws
mod CycleRefutes
