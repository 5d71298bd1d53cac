pub mod Exts
pub mod Net
pub mod Reading
pub mod Writing
pub mod Laws
