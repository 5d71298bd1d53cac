pub mod Carriable
pub mod Lines
