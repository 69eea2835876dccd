pub mod DecideLemmas
pub mod RowsLemmas
pub mod TableLemmas
