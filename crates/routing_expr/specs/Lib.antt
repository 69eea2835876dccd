pub mod Places
pub mod Naming
pub mod Reached
pub mod Judging
pub mod Searches
pub mod Machines
pub mod Spots
