pub mod Rows
pub mod Networks
pub mod Queries
pub mod Texts
pub mod Tokens
