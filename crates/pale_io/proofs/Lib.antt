pub mod FaultsLemmas
pub mod ToldLemmas
pub mod WholeLemmas
mod WritingSteps
mod ReadingSteps
