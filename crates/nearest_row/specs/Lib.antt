pub mod Lookup
pub mod Place
