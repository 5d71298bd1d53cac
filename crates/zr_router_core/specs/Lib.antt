pub mod Places
pub mod Right
pub mod Ready
pub mod Room
pub mod Calm
pub mod Done
pub mod Lasting
