pub mod Glance
pub mod Pages
