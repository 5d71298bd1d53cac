pub mod Flood
pub mod Tell
