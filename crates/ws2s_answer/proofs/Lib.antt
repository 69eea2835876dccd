mod AnsweringLemmas
mod WithinLemmas
