-- Climbing; the walk by steps; storing it; what the stores leave; and all together.
mod ClimbLaws
mod StepLaws
mod WayLaws
mod EncodeOrdered
mod OrderingLaws
-- The calls.
mod FinalizeLaws
mod OrderEntries
mod OrderCallLaws
