pub mod Lists
pub mod Slots
pub mod Keeping
pub mod Items
