pub mod Deciding
pub mod Ready
