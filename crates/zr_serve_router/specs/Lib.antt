pub mod Space
pub mod Former
