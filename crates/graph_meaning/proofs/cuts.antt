pub mod ValuesLemmas
pub mod DanglingLemmas
pub mod LeakLemmas
pub mod PairsLemmas
pub mod SharedLemmas
pub mod WrongLemmas
