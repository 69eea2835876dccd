pub mod Stated
pub mod Claims
pub mod Statements
pub mod Procedures
