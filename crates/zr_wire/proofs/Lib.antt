pub mod Front
pub mod Snapshots
