pub mod Model
pub mod Encode
pub mod Run
