pub mod Frames
pub mod Carries
pub mod Driving
pub mod Attach
pub mod Means
pub mod Joins
