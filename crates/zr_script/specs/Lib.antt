pub mod Short
pub mod Args
