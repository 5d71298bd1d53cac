pub mod Heads
pub mod Adding
pub mod Alone
pub mod Splitting
pub mod Lengths
pub mod Receiving
pub mod Named
