pub mod Fronts
pub mod Ways
pub mod Batches
pub mod Late
