-- Lines on two entries; cells of the table; the recurrences; the loops over a row of nested nodes.
pub mod EntryLines
pub mod TableCells
pub mod TableRows
pub mod NestingLaws
