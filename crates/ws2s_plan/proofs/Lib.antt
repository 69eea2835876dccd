pub mod PlanLemmas
pub mod TakingLemmas
