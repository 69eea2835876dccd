pub mod Counting
pub mod Standing
pub mod Opening
pub mod Places
pub mod Sizes
