pub mod Words
pub mod Stepping
pub mod Reaching
pub mod Served
pub mod Opening
pub mod Former
