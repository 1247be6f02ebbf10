-- What callers may cite, and what the functions' proofs do.
pub mod CallLaws
mod PutLaws
mod DecimalLaws
mod ListingLines
