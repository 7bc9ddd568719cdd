pub mod Ragged
pub mod Kept
