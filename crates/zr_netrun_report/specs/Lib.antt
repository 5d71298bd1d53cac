pub mod Summary
pub mod Counted
pub mod Waiting
