pub mod Rising
pub mod InUse
