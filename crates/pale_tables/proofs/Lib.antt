pub mod FaultLemmas
pub mod NamesLemmas
pub mod RouteLemmas
pub mod SizeLemmas
pub mod KnownRoutes
pub mod StageLemmas
pub mod TableLemmas
pub mod TypesLemmas
