pub mod Listing
pub mod Whole
mod Least
