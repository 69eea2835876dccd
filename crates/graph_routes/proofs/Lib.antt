pub mod LegLemmas
pub mod WalkLemmas
