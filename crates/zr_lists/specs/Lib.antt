pub mod Ascending
pub mod Cut
pub mod Place
pub mod Prefix
