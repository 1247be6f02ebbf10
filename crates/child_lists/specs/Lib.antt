-- The names that this crate's contracts cite.
pub mod Append
pub mod ChildLists
pub mod Links
