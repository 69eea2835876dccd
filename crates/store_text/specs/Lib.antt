pub mod StoreText
pub mod Faults
pub mod Lines
pub mod Spelling
pub mod Saying
pub mod Reading
pub mod DraftBodies
pub mod Writable
