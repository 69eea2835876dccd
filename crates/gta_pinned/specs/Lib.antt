pub mod Alike
pub mod Making
pub mod Shapes
pub mod States
pub mod Parts
