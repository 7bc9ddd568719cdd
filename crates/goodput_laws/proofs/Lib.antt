pub mod Survivals
pub mod Falling
pub mod Unpriced
pub mod Bounds
pub mod Rising
pub mod Agrees
mod Examples
