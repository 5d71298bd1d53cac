pub mod Encoding
pub mod Spelling
pub mod Matching
