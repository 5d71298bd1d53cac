pub mod Beginning
pub mod Starting
pub mod Telling
