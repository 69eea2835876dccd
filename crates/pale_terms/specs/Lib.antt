pub mod Sorts
pub mod Visibles
pub mod Scopes
pub mod Terms
