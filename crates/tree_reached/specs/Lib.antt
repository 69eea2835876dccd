pub mod Alike
pub mod ByField
pub mod Conjuncts
pub mod Going
pub mod Worked
