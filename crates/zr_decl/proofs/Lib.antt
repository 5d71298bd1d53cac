pub mod Messages
pub mod Written
pub mod Names
pub mod Fitting
