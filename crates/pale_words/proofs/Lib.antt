mod ArgsLemmas
mod CommandLemmas
pub mod GivesLemmas
mod ReadLemmas
mod SameRulesLemmas
mod SettingsLemmas
mod ValueLemmas
