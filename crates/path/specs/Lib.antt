pub mod PathReading
pub mod Tables
