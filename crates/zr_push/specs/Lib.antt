pub mod Route
pub mod Routes
