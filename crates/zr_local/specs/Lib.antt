pub mod Rows
pub mod Interests
pub mod Clients
pub mod State
pub mod Owners
pub mod Holders
pub mod Laws
