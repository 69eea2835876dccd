pub mod Counting
pub mod Deciding
pub mod Telling
pub mod Going
pub mod Keeping
pub mod Networks
pub mod Own
pub mod Tasks
