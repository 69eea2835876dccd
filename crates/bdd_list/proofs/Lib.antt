pub mod CostLemmas
pub mod ListingLemmas
pub mod WaitsLemmas
