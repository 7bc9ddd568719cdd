pub mod Judges
pub mod Passed
