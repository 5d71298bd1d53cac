pub mod Alike
pub mod ByKind
pub mod Covering
pub mod Kept
pub mod Keys
pub mod Rows
pub mod Telling
pub mod Ways
