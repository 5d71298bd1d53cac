pub mod Reached
pub mod Limits
