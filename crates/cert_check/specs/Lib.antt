pub mod Told
pub mod Worked
pub mod Numbering
pub mod Reached
pub mod Boards
pub mod Reading
pub mod Standing
pub mod Ending
