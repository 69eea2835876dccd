pub mod Exiting
pub mod OneTrace
pub mod TraceLaws
