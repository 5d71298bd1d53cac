pub mod Answer
pub mod Asked
pub mod Done
pub mod Hints
pub mod Holding
pub mod Requests
pub mod Steps
pub mod Whole
