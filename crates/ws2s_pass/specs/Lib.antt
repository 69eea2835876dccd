pub mod Applying
pub mod Constants
pub mod Flattening
pub mod Folding
pub mod Rewriting
pub mod Using
