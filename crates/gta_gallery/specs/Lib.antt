pub mod Functions
pub mod Grids
pub mod Told
