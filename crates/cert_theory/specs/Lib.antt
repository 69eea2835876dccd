pub mod Agreeing
pub mod Atoms
pub mod Sections
pub mod Tables
pub mod Worked
