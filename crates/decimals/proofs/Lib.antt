pub mod Decimals
pub mod Outcomes
pub mod Rounding
pub mod Table
