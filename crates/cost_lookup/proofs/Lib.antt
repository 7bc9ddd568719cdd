pub mod Turns
pub mod Rising
pub mod Small
pub mod Pairs
pub mod Judged
pub mod Entries
pub mod Examples
