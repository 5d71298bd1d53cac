pub mod Samples
pub mod Plain
