pub mod SentencesLemmas
