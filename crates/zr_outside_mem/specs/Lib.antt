pub mod Memory
pub mod MemClock
pub mod Calls
