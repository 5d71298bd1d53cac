pub mod Spelling
pub mod CanonForm
pub mod SameKeys
pub mod Text
pub mod Settled
pub mod Written
pub mod Reading
pub mod Plain
