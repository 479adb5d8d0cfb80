pub mod Accepting
pub mod Events
pub mod Refusals
pub mod Sounds
pub mod Guards
pub mod Playing
pub mod Telling
