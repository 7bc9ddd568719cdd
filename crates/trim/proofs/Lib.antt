pub mod Adding
pub mod Trimming
mod Rest
