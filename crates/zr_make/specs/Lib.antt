pub mod Plan
pub mod Draws
pub mod Script
pub mod Making
