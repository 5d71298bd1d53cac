pub mod Forms
pub mod Places
pub mod Causes
pub mod Explained
pub mod Carets
