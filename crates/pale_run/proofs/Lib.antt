pub mod NamingLemmas
pub mod EntryLemmas
pub mod TellingLemmas
