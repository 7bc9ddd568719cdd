pub mod Scan
pub mod Tests
pub mod Survival
pub mod Expected
pub mod Fours
