pub mod Standing
pub mod Naming
pub mod Declaring
