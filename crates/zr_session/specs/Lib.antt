pub mod Course
pub mod Carried
pub mod Step
pub mod Stream
pub mod Done
pub mod Session
pub mod Sending
pub mod Laws
