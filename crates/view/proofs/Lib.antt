-- What a node's fields say of the view of an arena, and where its links and its local root stand.
pub mod ViewLaws
pub mod LocalRootLaws
-- The loops that walk: each with its steps and its ends.
pub mod WalkLoops
pub mod AncestorLaws
pub mod ClassLaws
pub mod PartingLaws
