mod First
mod Index
mod Idle
mod Bits
mod Standing
mod Seen
mod Changing
mod Linking
mod Carrying
mod Draining
mod Putting
mod Moving
pub mod Keeping
pub mod Same
pub mod Giving
pub mod Sums
pub mod Queued
