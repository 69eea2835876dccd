pub mod Conjuncts
pub mod Facts
