pub mod Fold
pub mod Clear
pub mod Wins
pub mod Domain
