pub mod Showing
pub mod Recording
pub mod Tracing
