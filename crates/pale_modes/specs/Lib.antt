pub mod Completing
pub mod Deciding
pub mod Formatting
pub mod Replaying
pub mod Running
pub mod Tracing
