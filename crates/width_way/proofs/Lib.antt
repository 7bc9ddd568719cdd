pub mod Following
pub mod Ways
mod Examples
