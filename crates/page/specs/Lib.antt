pub mod Page
pub mod Numbers
pub mod Spelt
