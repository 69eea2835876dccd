pub mod Heads
pub mod Arguments
pub mod Atoms
pub mod Connectives
pub mod Quantifiers
pub mod Assertions
pub mod Parameters
pub mod Predicates
