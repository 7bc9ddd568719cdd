pub mod Drawing
pub mod Signals
