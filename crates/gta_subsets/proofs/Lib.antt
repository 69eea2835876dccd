pub mod NumbersLemmas
pub mod ClassesLemmas
pub mod ShortsLemmas
pub mod RootsLemmas
pub mod SubsetsLemmas
pub mod ClosingLemmas
pub mod RisingLemmas
