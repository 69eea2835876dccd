pub mod SameCells
pub mod Restricted
pub mod Told
pub mod Telling
pub mod Meeting
pub mod Made
