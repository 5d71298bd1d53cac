pub mod Links
pub mod Sending
pub mod Leaving
pub mod Names
pub mod Trees
pub mod Alike
