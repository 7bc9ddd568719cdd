pub mod Goodput
pub mod Pricing
pub mod Worths
