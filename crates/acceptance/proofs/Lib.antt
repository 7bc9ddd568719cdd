pub mod Judged
pub mod Expectation
pub mod Draws
mod Examples
