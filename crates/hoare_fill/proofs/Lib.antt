pub mod FormLemmas
pub mod PuttingLemmas
