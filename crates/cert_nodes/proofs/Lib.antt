pub mod NodesLemmas
pub mod StatesLemmas
pub mod SidesLemmas
pub mod UnaskedLemmas
pub mod WalksLemmas
pub mod MetLemmas
