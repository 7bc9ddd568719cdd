pub mod Curve
pub mod Stores
