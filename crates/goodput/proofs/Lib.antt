pub mod Batches
pub mod Answers
