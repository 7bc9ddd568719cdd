pub mod Laws
pub mod Accepted
pub mod Ranges
pub mod Loaded
pub mod Examples
