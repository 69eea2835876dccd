pub mod CellLemmas
pub mod ChangeLemmas
pub mod KeepingLemmas
pub mod FitsLemmas
pub mod FreshLemmas
