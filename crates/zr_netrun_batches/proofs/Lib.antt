pub mod Batch
pub mod Feeding
pub mod Opens
pub mod Sending
pub mod Tags
