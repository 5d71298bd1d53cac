pub mod Turn
pub mod Channel
pub mod Channels
pub mod Names
pub mod Outbox
pub mod Packing
pub mod Packer
pub mod Laws
