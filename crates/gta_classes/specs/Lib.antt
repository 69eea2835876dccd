pub mod Chosen
pub mod Classes
pub mod Splitting
pub mod Lists
pub mod Cuts
pub mod Marks
