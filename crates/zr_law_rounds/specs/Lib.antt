pub mod Rounds
pub mod Told
pub mod Ordered
