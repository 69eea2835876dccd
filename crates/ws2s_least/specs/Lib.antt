pub mod Lightest
