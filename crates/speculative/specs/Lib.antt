pub mod Acceptance
pub mod Drafter
