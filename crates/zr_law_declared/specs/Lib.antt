pub mod Declared
pub mod Rows
pub mod Sets
pub mod Logs
pub mod Phases
