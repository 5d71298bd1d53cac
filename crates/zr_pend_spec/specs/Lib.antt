pub mod Row
pub mod Pending
pub mod Laws
pub mod Readings
pub mod Held
pub mod Best
