pub mod Stops
pub mod Columns
