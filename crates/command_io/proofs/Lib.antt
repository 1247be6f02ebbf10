-- What was read, within its buffer.
pub mod InputLaws
