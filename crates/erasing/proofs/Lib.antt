-- Erase sets: the mark of one node and the marked set; the pass that spares links; and question 11,
-- node by node.
mod MarkLaws
mod SpareLaws
mod AcceptLaws
-- New numbers; what is kept of a list, put into an array; a child list; all child lists; and the
-- order.
mod KeptNumbers
mod KeepLaws
mod KeptChildren
mod FlatLaws
mod KeptOrder
-- The records of the erased graph; and their moves.
pub mod ErasedRecords
pub mod MoveLaws
-- What erasing leaves of the graph; and what all stores leave.
mod ErasedGraphs
mod EncodeErased
-- The calls.
pub mod EraseCallLaws
