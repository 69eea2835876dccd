pub mod MakingLemmas
pub mod TellsLemmas
pub mod ShapesLemmas
pub mod LawLemmas
pub mod GivenLemmas
pub mod RootsLemmas
pub mod ListsLemmas
