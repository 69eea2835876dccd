pub mod WellEncoded
pub mod Worked
