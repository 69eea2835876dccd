pub mod Joining
pub mod Tasks
