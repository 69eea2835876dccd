pub mod Fronting
pub mod Going
pub mod Opening
