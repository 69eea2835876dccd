pub mod Counting
pub mod Layouts
pub mod Positions
pub mod Spaces
pub mod Tracks
