pub mod KnownLemmas
