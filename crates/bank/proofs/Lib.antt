pub mod Bounds
pub mod Lookups
pub mod Outcomes
mod Examples
pub mod Places
pub mod Spelled
