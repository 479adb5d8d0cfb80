pub mod Slows
