pub mod Weights
pub mod Logs
pub mod Kept
pub mod Holding
pub mod Sent
pub mod Lengths
pub mod Passing
pub mod Keys
