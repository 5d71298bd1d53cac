pub mod Rows
pub mod Waiting
pub mod Deeds
pub mod Numbers
pub mod Calls
pub mod Taken
