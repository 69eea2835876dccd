pub mod StatesLemmas
