pub mod Bag
pub mod Ranked
