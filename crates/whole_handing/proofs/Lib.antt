pub mod RestrictingLemmas
pub mod CellLemmas
pub mod Merging
pub mod ReturnLemmas
