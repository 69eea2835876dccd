pub mod Nesting
pub mod TraceLines
