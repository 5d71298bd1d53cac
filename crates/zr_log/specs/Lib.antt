pub mod Log
pub mod Known
pub mod Laws
