pub mod Place
pub mod Ids
pub mod Wanted
pub mod Told
pub mod Rows
pub mod Hub
pub mod Laws
