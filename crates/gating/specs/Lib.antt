pub mod Chains
pub mod Batch
