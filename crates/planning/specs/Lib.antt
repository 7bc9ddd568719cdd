pub mod Steps
pub mod Acting
