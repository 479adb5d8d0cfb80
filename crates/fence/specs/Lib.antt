pub mod Closed
pub mod Fenced
pub mod Sound
