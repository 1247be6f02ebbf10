-- The names that this crate's contracts cite.
pub mod Culled
pub mod CullCalls
