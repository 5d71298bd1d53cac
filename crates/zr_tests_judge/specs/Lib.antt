pub mod Equal
pub mod Given
pub mod Judge
pub mod Same
