pub mod NumbersLemmas
pub mod ConjunctionsLemmas
