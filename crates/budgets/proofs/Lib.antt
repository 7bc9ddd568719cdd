pub mod Copied
pub mod Values
