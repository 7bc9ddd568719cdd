mod Examples
pub mod Trimming
