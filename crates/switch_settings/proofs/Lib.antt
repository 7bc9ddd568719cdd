pub mod Settings
mod Examples
