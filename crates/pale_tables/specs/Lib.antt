pub mod Faults
pub mod Names
pub mod Routes
pub mod Sizes
pub mod Types
pub mod Stages
