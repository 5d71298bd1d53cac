pub mod Keys
pub mod Messages
pub mod Written
pub mod Fitting
pub mod Contents
