pub mod OneEachLemmas
pub mod WeighedLemmas
pub mod ForksLemmas
pub mod LightestLemmas
pub mod KnownLemmas
