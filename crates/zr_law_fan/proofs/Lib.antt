pub mod Weights
pub mod Pushing
pub mod Moving
pub mod Running
pub mod Ending
pub mod Plain
