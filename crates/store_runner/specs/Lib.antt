pub mod Conditions
pub mod Recordings
pub mod Assigning
