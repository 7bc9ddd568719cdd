pub mod Facts
pub mod Ways
