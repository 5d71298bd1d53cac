pub mod Tables
pub mod History
pub mod Note
pub mod Held
pub mod Batches
pub mod Ends
pub mod Grows
pub mod Planned
