pub mod Starts
pub mod Holes
pub mod Entries
