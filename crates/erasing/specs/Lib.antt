-- The names that this crate's contracts cite.
pub mod KeptLists
pub mod EraseNodes
pub mod EraseRecords
pub mod MarkedSet
pub mod Erasures
