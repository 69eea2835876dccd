pub mod NumbersLemmas
pub mod WordsLemmas
pub mod FieldsLemmas
pub mod ListsLemmas
pub mod LinesLemmas
pub mod SpelledLemmas
