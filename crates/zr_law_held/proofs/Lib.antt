pub mod Sums
pub mod Held
pub mod Carries
pub mod Heard
pub mod Acts
pub mod Words
pub mod Lines
