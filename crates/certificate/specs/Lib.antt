-- The names that this crate's contracts cite.
pub mod Sorts
pub mod Certificate
