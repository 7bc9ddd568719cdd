pub mod Settling
pub mod Measured
