pub mod Meaning
pub mod Standing
pub mod Fields
pub mod Showing
