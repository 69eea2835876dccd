pub mod Advancing
pub mod Answers
pub mod Frames
pub mod Grammars
pub mod Moves
pub mod Predicting
pub mod Readings
pub mod Stops
