pub mod Given
pub mod Saying
pub mod Selecting
