pub mod Endings
pub mod Lines
pub mod Traces
pub mod Tracing
