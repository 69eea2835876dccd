pub mod Forks
pub mod Free
pub mod Holding
pub mod Starts
