pub mod Slowly
pub mod Joins
