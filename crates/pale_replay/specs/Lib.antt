pub mod Lines
pub mod Replays
pub mod Replaying
pub mod Running
