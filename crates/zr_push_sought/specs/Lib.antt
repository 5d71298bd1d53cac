pub mod Sought
pub mod Hops
pub mod Pairs
pub mod Found
pub mod Holders
