pub mod ChosenLemmas
pub mod ListsLemmas
pub mod SplitLemmas
pub mod MembersLemmas
pub mod CutLemmas
pub mod MarksLemmas
