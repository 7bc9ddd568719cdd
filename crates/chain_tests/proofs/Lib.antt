pub mod Batches
pub mod Faults
pub mod UpTo
