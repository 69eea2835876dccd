pub mod Lines
pub mod Reports
pub mod Starts
pub mod Meets
