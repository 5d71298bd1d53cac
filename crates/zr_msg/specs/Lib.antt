pub mod Extras
pub mod Decl
pub mod Kinds
pub mod Groups
pub mod Peer
