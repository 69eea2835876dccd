pub mod Answer
pub mod Building
pub mod Examples
pub mod Machines
pub mod Reducing
pub mod Sizes
