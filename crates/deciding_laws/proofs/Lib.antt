mod Clear
pub mod Rules
