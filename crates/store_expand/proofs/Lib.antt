pub mod ReadingLemmas
pub mod SpotLemmas
pub mod OpeningLemmas
pub mod StepLemmas
pub mod SizeLemmas
