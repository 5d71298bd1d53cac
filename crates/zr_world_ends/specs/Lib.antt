pub mod Kept
pub mod Named
pub mod Drained
pub mod Carried
pub mod Index
pub mod Steps
pub mod Spread
