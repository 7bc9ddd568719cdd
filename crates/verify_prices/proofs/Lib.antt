pub mod Spans
pub mod Between
pub mod OverOne
pub mod Counted
pub mod NoHole
pub mod Priced
