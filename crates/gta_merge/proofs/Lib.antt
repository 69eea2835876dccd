pub mod ListsLemmas
pub mod ClassesLemmas
pub mod FirstsLemmas
pub mod RowsLemmas
pub mod PartLemmas
pub mod MergedLemmas
pub mod ToldLemmas
