pub mod Cases
pub mod Branches
pub mod Lines
