mod DecidingLemmas
mod FormattingLemmas
pub mod GivenLemmas
pub mod CutLemmas
pub mod ReplayedLemmas
pub mod RanLemmas
pub mod TracedLemmas
mod DecidedLemmas
