pub mod Merged
pub mod Lines
pub mod Classes
pub mod Parts
pub mod Told
