-- Demand 3, and that a function makes one of its calls.
pub mod Demand3
pub mod Steps
