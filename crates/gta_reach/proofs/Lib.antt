pub mod SweepLemmas
pub mod ReachLemmas
pub mod ExploreLemmas
pub mod NodeLemmas
pub mod UnsetLemmas
