pub mod NumberLemmas
pub mod StopLemmas
pub mod BegunLemmas
pub mod PartLemmas
