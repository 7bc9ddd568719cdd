pub mod Rows
pub mod Paying
