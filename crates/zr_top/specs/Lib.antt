pub mod Words
pub mod Asked
pub mod Means
pub mod Told
