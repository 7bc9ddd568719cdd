pub mod Walks
pub mod Pacing
pub mod Arrival
pub mod Record
pub mod Stalled
pub mod Rest
pub mod Settled
pub mod Switches
pub mod Candidates
pub mod Answered
mod Examples
