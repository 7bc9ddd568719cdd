pub mod Growing
pub mod Whole
