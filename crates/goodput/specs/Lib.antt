pub mod Survival
pub mod Curve
pub mod Expected
pub mod Pricing
pub mod Depth
