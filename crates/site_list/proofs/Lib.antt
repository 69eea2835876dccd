pub mod CauseLemmas
pub mod WalkLemmas
