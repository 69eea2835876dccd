pub mod Beginning
pub mod Forking
