pub mod Narrowing
pub mod Pending
pub mod Reading
pub mod Taking
pub mod Waiting
