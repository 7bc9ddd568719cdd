pub mod Ways
pub mod Prices
pub mod Writing
