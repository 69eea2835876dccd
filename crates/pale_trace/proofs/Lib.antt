mod EndingLemmas
mod TellingLemmas
mod TripleLemmas
mod RunLemmas
