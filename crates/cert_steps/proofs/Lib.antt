pub mod ListsLemmas
pub mod ClassesLemmas
pub mod RootsLemmas
pub mod RowsLemmas
pub mod SpacesLemmas
pub mod AcceptingLemmas
pub mod AutomatonLemmas
