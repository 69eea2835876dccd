pub mod LeadsLemmas
