pub mod Marks
pub mod Barring
