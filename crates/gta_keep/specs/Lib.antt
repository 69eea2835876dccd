pub mod Holding
pub mod Limits
pub mod Places
