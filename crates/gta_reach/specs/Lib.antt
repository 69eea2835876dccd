pub mod Form
pub mod Reached
pub mod Sides
pub mod Exploring
pub mod Unset
