-- The names that this crate's contracts cite.
pub mod Authored
pub mod Standing
pub mod Insertion
pub mod Placing
pub mod Cycle
