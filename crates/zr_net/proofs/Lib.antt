pub mod Fronts
pub mod Messages
pub mod Kept
pub mod Written
pub mod Marks
pub mod Fitting
pub mod Names
