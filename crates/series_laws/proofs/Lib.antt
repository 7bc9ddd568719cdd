pub mod Means
pub mod Fits
pub mod Examples
