pub mod Bound
pub mod Given
pub mod Stating
