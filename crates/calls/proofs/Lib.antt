pub mod Owing
pub mod Rows
pub mod Writing
pub mod Histories
