pub mod Spelling
pub mod Flag
pub mod Number
pub mod Text
pub mod Reading
pub mod Laws
pub mod Writing
