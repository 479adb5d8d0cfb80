pub mod Shown
pub mod Playable
pub mod Replayed
