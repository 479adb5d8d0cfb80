pub mod Refusals
pub mod Requests
pub mod Records
pub mod Reference
pub mod Causes
pub mod Effects
pub mod Law
pub mod History
