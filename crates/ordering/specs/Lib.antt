-- The names that this crate's contracts cite.
pub mod Finalizing
pub mod OrderReading
pub mod Ordering
