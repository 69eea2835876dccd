pub mod ListedLemmas
pub mod ClosingLemmas
pub mod ChainLemmas
pub mod GroundLemmas
pub mod WalkingLemmas
pub mod SeenLemmas
