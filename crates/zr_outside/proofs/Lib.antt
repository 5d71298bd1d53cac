pub mod Appending
pub mod Counting
