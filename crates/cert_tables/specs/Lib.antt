pub mod Accepting
pub mod Automata
pub mod Orders
pub mod PairKeys
pub mod Pairs
pub mod SetKeys
pub mod Sets
pub mod Starts
