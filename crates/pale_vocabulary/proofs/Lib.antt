pub mod AssertionLemmas
pub mod HeadLemmas
pub mod NameLemmas
