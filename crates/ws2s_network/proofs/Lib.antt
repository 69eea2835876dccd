pub mod NetworkLemmas
