pub mod ApartLemmas
pub mod IndexLemmas
pub mod PlacesLemmas
pub mod PositionsLemmas
pub mod SpacesLemmas
pub mod StepsLemmas
pub mod TracksLemmas
