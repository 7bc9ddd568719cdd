pub mod Draws
pub mod Laid
pub mod Blanks
pub mod Multiplying
pub mod Parts
pub mod Laying
