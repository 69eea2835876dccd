pub mod Turnable
pub mod Going
pub mod Ending
pub mod Naming
