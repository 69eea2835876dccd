pub mod StandingLemmas
pub mod AssignmentLemmas
pub mod BeginningLemmas
pub mod ForkingLemmas
pub mod FunctionalLemmas
pub mod AloneLemmas
