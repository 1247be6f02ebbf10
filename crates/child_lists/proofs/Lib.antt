-- The check: the steps of one walk; that nothing stands twice in a list; what a walk shows of its
-- list; and that counting decides.
mod ChildListWalk
mod OnceLaws
mod OneListLaws
mod CountLaws
-- A node more in an arena, for the calls that add one or read a snapshot.
pub mod AppendEncodable
pub mod EmptyArena
pub mod EncodeOver
pub mod AppendLinks
pub mod AppendStores
pub mod EncodeAppend
-- Links of lists in arrays; the lists of all parents; what storing the links leaves; and storing
-- them list by list.
pub mod LinkLaws
pub mod SegmentLaws
pub mod LinkStores
mod SlotStores
pub mod ListStores
mod StoringLaws
