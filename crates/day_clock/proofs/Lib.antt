mod Examples
pub mod Ways
