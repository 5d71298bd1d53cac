pub mod Limits
pub mod Roles
pub mod Writing
pub mod Writable
pub mod Sending
