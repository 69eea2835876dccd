pub mod Answers
pub mod Starting
