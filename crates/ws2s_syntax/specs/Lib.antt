pub mod Checked
pub mod Meaning
pub mod Sentences
