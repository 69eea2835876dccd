pub mod JoinedLemmas
pub mod GoodLemmas
pub mod FieldsLemmas
pub mod StandingLemmas
pub mod EndingLemmas
mod TellingLemmas
pub mod AskingLemmas
pub mod MeetReportLemmas
pub mod MeetTellingLemmas
