pub mod Decision
pub mod Tallies
