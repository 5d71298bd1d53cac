pub mod Cutting
pub mod Within
pub mod Splitting
