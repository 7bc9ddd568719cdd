pub mod Values
pub mod Columns
