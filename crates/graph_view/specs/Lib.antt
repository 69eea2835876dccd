pub mod Syms
pub mod Sights
pub mod Live
pub mod Fields
pub mod Routes
pub mod Cuts
pub mod After
pub mod Fitting
