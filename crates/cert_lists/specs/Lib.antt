pub mod States
pub mod Settled
