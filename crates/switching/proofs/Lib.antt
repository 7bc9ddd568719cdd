pub mod Slots
pub mod Steps
pub mod Widths
pub mod Counter
pub mod Stalls
mod Examples
