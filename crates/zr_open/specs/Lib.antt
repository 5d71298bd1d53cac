pub mod Reason
pub mod Opening
pub mod Cookie
pub mod Sizes
pub mod Table
pub mod Laws
