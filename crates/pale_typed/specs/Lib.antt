pub mod TypedPrograms
pub mod Variables
pub mod Fitting
