pub mod WriteRows
pub mod Wrote
