pub mod ConjunctsLemmas
pub mod FactsLemmas
