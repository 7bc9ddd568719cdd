pub mod Figures
pub mod Whole
pub mod Ways
