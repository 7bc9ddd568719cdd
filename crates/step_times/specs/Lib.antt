pub mod Times
pub mod Between
pub mod Prices
