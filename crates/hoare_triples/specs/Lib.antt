pub mod Weights
pub mod Following
