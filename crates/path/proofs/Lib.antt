-- The answers by number and value.
pub mod AnswerLaws
-- Reading from the front, of one path and by tables.
pub mod ReadingLaws
pub mod PathTables
-- Reading from the back.
mod BackwardLaws
-- A name appended, and equality.
pub mod JoinLaws
mod JoiningLaws
mod EqualLaws
