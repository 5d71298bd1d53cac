pub mod Ids
pub mod Plan
pub mod Calls
pub mod Laws
pub mod Tokens
pub mod Touched
