pub mod DecidedAssertions
pub mod EndLemmas
pub mod PlacesLemmas
pub mod CutLemmas
