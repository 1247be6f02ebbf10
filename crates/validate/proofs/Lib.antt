-- The questions put to one record.
pub mod RecordCheckLaws
-- That the tests of an arena are question 2 (`HoldsTests`); the rest is what that and the
-- functions' proofs cite.
mod MarksLaws
mod GrownLaws
mod ArenaRecords
mod RecordsLaws
mod EntriesLaws
pub mod HoldsTests
-- What the questions about one node and two say, for the calls too.
pub mod AskingLaws
