pub mod Finding
pub mod Tallies
