pub mod Table
pub mod Order
pub mod Prune
pub mod Inner
pub mod Lawful
