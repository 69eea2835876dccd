pub mod Settled
pub mod Settling
