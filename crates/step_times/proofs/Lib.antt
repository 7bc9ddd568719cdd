pub mod Turns
pub mod Filled
pub mod Fractions
