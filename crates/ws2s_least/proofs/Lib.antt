pub mod CounterLemmas
pub mod LightestLemmas
