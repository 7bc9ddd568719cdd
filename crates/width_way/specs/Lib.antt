pub mod Way
pub mod Indices
