pub mod RecordCheck
pub mod Validate
