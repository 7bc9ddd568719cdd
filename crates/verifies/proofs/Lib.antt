pub mod Summing
pub mod Examples
