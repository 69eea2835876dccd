pub mod Completing
pub mod Output
