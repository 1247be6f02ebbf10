-- Verdicts: lines that compare numbers, and what a verdict says.
pub mod VerdictNumbers
pub mod VerdictLaws
-- Document 01's lists of lines.
pub mod SameRootLaws
pub mod SpecializesLaws
pub mod SiblingLines
-- The two comparisons.
pub mod ComparisonCycle
-- The calls: two siblings, the child list of the local root, and the laws of the answers.
pub mod SiblingLaws
pub mod CopyLaws
pub mod HierarchyLaws
pub mod ComparedLaws
