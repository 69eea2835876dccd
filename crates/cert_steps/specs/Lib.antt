pub mod Steps
pub mod Places
pub mod Sides
pub mod Reading
