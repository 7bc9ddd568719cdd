pub mod Fits
pub mod Once
mod Examples
