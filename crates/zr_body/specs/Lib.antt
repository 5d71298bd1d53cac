pub mod Body
pub mod Reading
pub mod Payload
pub mod Laws
pub mod Latest
