pub mod HandingLemmas
pub mod MovingLemmas
pub mod NarrowLemmas
pub mod NextLemmas
pub mod NarrowedPartsLemmas
pub mod NarrowingLemmas
pub mod SharingLemmas
pub mod WaitingLemmas
