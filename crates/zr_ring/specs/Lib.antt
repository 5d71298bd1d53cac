pub mod Content
pub mod Rule
pub mod Ends
pub mod Items
pub mod Giver
pub mod Taker
pub mod Queue
