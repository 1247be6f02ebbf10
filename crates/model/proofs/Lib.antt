-- Document 01's examples, and where it has none the smallest that tells, by computation alone. What
-- follows from the definitions is in crates/laws.
pub mod Text
pub mod PathExamples
pub mod ExampleGraphs
pub mod Examples
pub mod RankExamples
pub mod HierarchyExamples
pub mod SnapshotExamples
pub mod CallExamples
pub mod SettingExamples
