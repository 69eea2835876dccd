pub mod ShownLemmas
pub mod PlaceLemmas
pub mod ReadingLemmas
pub mod ConditionLemmas
pub mod ChangeLemmas
pub mod MergeLemmas
