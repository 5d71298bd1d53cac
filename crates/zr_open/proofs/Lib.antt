pub mod Opens
pub mod Short
