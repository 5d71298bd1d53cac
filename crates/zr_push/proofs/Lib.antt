pub mod Along
pub mod Remembering
pub mod Stops
