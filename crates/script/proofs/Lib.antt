pub mod LineEnds
pub mod LinesToCome
pub mod Words
pub mod Steps
pub mod Spelled
pub mod Arguments
