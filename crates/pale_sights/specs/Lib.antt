pub mod Variables
pub mod Formals
pub mod Sights
pub mod Framing
pub mod Headings
