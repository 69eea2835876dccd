pub mod Handed
pub mod Beside
