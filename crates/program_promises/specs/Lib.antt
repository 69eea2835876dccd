pub mod Safety
pub mod Completeness
pub mod Telling
