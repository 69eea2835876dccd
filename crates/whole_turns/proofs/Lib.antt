pub mod Codes
pub mod PieceLemmas
pub mod Forms
pub mod Halting
pub mod Values
