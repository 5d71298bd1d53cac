pub mod Alive
pub mod Gone
