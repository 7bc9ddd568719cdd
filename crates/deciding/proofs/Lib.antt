pub mod Means
pub mod Decisions
pub mod Gated
pub mod Narrow
