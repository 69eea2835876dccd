pub mod AgreeingLemmas
pub mod StandingLemmas
pub mod SymsLemmas
pub mod LiveLemmas
pub mod ReadLemmas
pub mod TellLemmas
pub mod FieldsLemmas
pub mod SeenLemmas
