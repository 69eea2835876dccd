pub mod OneEach
pub mod Weighed
pub mod Judging
pub mod Known
