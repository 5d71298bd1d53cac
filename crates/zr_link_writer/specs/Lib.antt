pub mod Parts
pub mod Ends
pub mod Writing
pub mod Step
pub mod Brief
pub mod Turn
pub mod Outlet
