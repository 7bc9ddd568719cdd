mod Examples
pub mod Reading
