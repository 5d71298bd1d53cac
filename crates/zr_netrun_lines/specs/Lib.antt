pub mod Possible
pub mod Kept
pub mod Counted
pub mod Within
