mod Answered
mod Begins
pub mod Decides
mod Delivered
pub mod Loops
pub mod Parts
pub mod Replied
