pub mod Ends
pub mod Heard
pub mod Acts
pub mod Reached
pub mod Words
pub mod Lines
