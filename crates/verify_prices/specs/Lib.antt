pub mod Price
pub mod Bridge
pub mod Rule
