pub mod Tested
pub mod Fill
pub mod Summed
pub mod Four
