pub mod Near
pub mod Ascending
pub mod Placed
pub mod Chosen
pub mod Beside
