pub mod Read
pub mod Acceptance
