pub mod Unrefused
pub mod Carrying
