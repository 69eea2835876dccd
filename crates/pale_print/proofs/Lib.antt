pub mod AssertionLemmas
pub mod ConditionLemmas
pub mod RouteLemmas
pub mod StatementLemmas
pub mod Written
