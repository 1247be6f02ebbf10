-- The names that this crate's contracts cite.
pub mod Buffers
pub mod Inputs
