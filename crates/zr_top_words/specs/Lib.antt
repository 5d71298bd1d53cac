pub mod App
pub mod Asked
pub mod Forms
pub mod Read
