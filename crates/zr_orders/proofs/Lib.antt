pub mod Bag
pub mod Passes
pub mod Ranked
