pub mod Record
pub mod Rounds
pub mod Asked
