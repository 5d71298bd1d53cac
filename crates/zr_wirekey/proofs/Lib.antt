pub mod Counted
pub mod Keys
pub mod Alike
pub mod Mirror
pub mod Numbers
pub mod Giving
pub mod Bare
pub mod Forgetting
