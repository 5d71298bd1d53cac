pub mod Told
pub mod Crew
