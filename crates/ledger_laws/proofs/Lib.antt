pub mod Orders
pub mod Ring
pub mod Laid
pub mod Given
mod WordWays
pub mod Steps
pub mod Forth
pub mod Back
pub mod Theorem
pub mod Answers
pub mod Corollaries
pub mod Unwritten
pub mod SameRows
pub mod Shown
pub mod Means
pub mod Examples
pub mod Anew
