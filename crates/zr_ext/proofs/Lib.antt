pub mod Trying
pub mod Found
pub mod One
pub mod Many
pub mod Written
pub mod Distinct
pub mod Passed
