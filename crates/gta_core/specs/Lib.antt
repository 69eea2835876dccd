pub mod Auto
pub mod Given
pub mod Placing
pub mod Changes
pub mod Accepting
pub mod Sizes
pub mod Factored
