pub mod NameTables
pub mod Resolving
pub mod TextReading
