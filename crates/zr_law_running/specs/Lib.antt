pub mod Runs
pub mod Allowed
pub mod Deeds
pub mod Laws
pub mod Example
