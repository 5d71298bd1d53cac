pub mod Expression
pub mod Key
pub mod Laws
