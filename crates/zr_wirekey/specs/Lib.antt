pub mod Scopes
pub mod Spelling
pub mod Reading
pub mod Writing
pub mod Names
pub mod Numbering
pub mod Laws
