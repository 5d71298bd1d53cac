pub mod Weights
pub mod Lines
