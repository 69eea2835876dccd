pub mod Filling
pub mod Building
pub mod Project
pub mod Settled
pub mod Growing
