-- The fields, the records by place and their questions.
pub mod FieldLaws
pub mod SnapshotRecords
pub mod CheckLaws
-- Filling an arena, and the reader.
mod SnapshotFill
mod ReaderLaws
-- What is written reads back; the writer.
pub mod ReadBack
mod WriterLaws
-- The calls.
mod SnapshotCallLaws
