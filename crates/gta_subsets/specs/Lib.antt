pub mod Subsets
pub mod Numbers
pub mod Classes
pub mod Shorts
pub mod Roots
pub mod Closing
