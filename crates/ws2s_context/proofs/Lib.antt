pub mod FrontingLemmas
pub mod GoingLemmas
pub mod OpeningLemmas
