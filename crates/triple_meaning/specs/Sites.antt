pub mod Places
pub mod Seeing
pub mod Answering
pub mod Doing
pub mod Ending
