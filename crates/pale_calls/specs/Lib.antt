pub mod Classes
pub mod Signatures
pub mod Calls
