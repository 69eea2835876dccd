pub mod ConnectivesLemmas
pub mod GoingLemmas
pub mod LawsLemmas
pub mod PositionsLemmas
