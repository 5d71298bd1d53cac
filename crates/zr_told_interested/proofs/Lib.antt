pub mod Left
pub mod Reaching
