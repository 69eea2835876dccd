pub mod TraceLemmas
pub mod CodeTraces
pub mod TracedRuns
pub mod RunsTraced
pub mod OneTrace
pub mod KeptStores
pub mod Triples
pub mod RecordedLemmas
