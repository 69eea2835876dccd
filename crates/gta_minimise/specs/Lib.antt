pub mod Marked
pub mod Renamed
pub mod Rows
pub mod Quotient
pub mod Minimised
