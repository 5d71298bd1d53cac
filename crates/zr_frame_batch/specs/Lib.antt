pub mod Framing
pub mod Laws
