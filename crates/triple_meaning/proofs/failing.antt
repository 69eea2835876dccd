pub mod OverLemmas
pub mod NullLemmas
pub mod StartLemmas
pub mod SiteLemmas
pub mod FailingLemmas
pub mod SettledLemmas
