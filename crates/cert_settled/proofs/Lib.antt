pub mod StatesLemmas
pub mod StepsLemmas
pub mod ClosedLemmas
pub mod LinesLemmas
pub mod QuantifiedLemmas
pub mod FaultsLemmas
