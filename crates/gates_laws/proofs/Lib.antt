pub mod Widths
pub mod Fuel
pub mod Entered
pub mod Sizes
pub mod Powers
pub mod Prices
pub mod Signs
pub mod Starts
mod Examples
pub mod Bridged
