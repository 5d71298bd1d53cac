pub mod Carrying
pub mod Going
pub mod Standing
pub mod Waiting
