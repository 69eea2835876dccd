pub mod Checking
pub mod Generating
pub mod Judging
pub mod Meeting
