pub mod Among
pub mod Keys
pub mod ByKey
