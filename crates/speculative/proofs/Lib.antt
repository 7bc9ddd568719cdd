pub mod Refusals
pub mod Pricing
pub mod Answers
pub mod Equal
mod Examples
