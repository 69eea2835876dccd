pub mod Claims
pub mod Sites
pub mod Triples
pub mod Tracks
pub mod Failing
