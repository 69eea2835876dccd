pub mod Shown
pub mod Stopping
pub mod Traces
