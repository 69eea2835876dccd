pub mod SparesLemmas
pub mod SearchingLemmas
pub mod MeaningLemmas
pub mod FailingLemmas
pub mod PeakLemmas
pub mod ExistenceLemmas
