pub mod Report
pub mod Statuses
pub mod Texts
pub mod Written
