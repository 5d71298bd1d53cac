pub mod Sendable
pub mod Carriers
