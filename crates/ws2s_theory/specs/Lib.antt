pub mod Atoms
pub mod Contexts
pub mod Merging
pub mod Peaks
pub mod Trees
pub mod Worked
