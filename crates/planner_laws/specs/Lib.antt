pub mod Calls
pub mod Standing
pub mod Booked
pub mod Used
