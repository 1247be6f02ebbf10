pub mod Adding
pub mod Describing
pub mod Queries
pub mod Setting
