pub mod Frames
pub mod Hearing
pub mod Lawful
pub mod Building
mod Codes
pub mod Placed
mod Settled
pub mod Taken
pub mod Answered
