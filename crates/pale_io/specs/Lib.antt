pub mod Faults
pub mod Told
pub mod Whole
pub mod Plan
pub mod Edge
