pub mod Numbers
pub mod Pairs
