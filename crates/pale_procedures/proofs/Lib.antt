pub mod StatementLemmas
pub mod ReadingLemmas
