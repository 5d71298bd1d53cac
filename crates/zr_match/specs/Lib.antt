pub mod Match
pub mod Table
pub mod Laws
pub mod Row
