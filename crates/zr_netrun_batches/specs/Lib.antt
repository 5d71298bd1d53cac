pub mod Coming
pub mod Line
pub mod Opening
pub mod Way
