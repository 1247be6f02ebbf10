-- The names that this crate's contracts cite.
pub mod ChildNames
pub mod Deepened
