mod ReadingLemmas
mod SafetyLemmas
mod CompletenessLemmas
mod TellingLemmas
