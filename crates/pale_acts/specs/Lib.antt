pub mod Operands
pub mod Conditions
pub mod Assignments
