pub mod Told
pub mod OnRoute
