pub mod ParseSizes
pub mod ParseTable
pub mod TableLaws
pub mod Productions
