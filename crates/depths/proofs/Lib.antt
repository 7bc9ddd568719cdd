pub mod Worths
pub mod Halves
pub mod Depths
pub mod Written
