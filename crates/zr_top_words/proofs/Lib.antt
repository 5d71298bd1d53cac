pub mod Digits
pub mod Causes
pub mod Matched
pub mod Parts
pub mod Rows
pub mod Steps
pub mod Entering
pub mod Taken
