pub mod Stacked
pub mod Rooms
