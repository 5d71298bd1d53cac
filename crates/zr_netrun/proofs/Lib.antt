pub mod Starting
pub mod Reading
pub mod Telling
pub mod Summing
pub mod Asked
pub mod Failing
