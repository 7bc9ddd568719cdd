pub mod Compared
pub mod Ways
pub mod Around
pub mod Means
pub mod Nearest
pub mod Rows
pub mod Tabled
pub mod Times
pub mod Lookup
pub mod Walking
pub mod Inside
pub mod Within
pub mod Heads
pub mod NeverPasses
pub mod Chosen
pub mod Entered
pub mod Planned
mod Examples
