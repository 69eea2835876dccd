pub mod Standings
pub mod Turning
