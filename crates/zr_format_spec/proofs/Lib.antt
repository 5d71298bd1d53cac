pub mod Follows
pub mod Spelled
pub mod Series
