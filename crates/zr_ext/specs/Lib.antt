pub mod Header
pub mod Chain
pub mod Reading
pub mod Finding
pub mod Writing
pub mod Refusals
pub mod Laws
