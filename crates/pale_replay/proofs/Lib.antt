pub mod ArrivalLemmas
pub mod TellingLemmas
