pub mod GridLemmas
pub mod GoingLemmas
mod TablesLemmas
pub mod ToldLemmas
