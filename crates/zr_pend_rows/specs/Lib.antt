pub mod Ending
pub mod Tied
