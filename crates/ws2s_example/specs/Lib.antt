pub mod Examples
pub mod Hanging
pub mod Texts
