pub mod Live
pub mod Walks
pub mod Fields
