pub mod Passing
pub mod Sent
