pub mod Listing
pub mod Waits
