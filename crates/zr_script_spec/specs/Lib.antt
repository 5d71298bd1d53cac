pub mod Mode
pub mod Step
pub mod Lines
pub mod Words
pub mod Command
pub mod Report
