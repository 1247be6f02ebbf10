-- The names that this crate's contracts cite.
pub mod Listings
pub mod Texts
