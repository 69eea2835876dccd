pub mod PartLemmas
pub mod RequestLemmas
pub mod RunLineLemmas
