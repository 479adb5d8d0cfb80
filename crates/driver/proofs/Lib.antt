pub mod Hearing
pub mod Leading
pub mod Reading
pub mod Sending
pub mod Driven
pub mod Fitted
