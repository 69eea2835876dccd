mod CodeLemmas
mod ReachLemmas
mod WeightLemmas
mod FollowingLemmas
mod PointLemmas
mod SplittingLemmas
