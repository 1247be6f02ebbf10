-- The names that this crate's contracts cite.
pub mod Filling
pub mod SnapshotReading
pub mod Writing
pub mod Snapshots
