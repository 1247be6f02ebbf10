-- The names that this crate's contracts cite.
pub mod Comparisons
pub mod Hierarchies
pub mod Settled
pub mod Verdicts
