pub mod Slots
pub mod Gate
