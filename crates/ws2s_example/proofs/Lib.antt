pub mod HangingLemmas
pub mod LinesLemmas
pub mod ListLemmas
pub mod TextsLemmas
