pub mod Meaning
pub mod Rows
pub mod Verdict
pub mod Outline
pub mod Limit
pub mod Plain
pub mod PlainLemmas
