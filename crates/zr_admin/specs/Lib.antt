pub mod Hearing
pub mod Asked
pub mod Answers
pub mod Inner
