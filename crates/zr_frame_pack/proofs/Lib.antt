pub mod NamesGiven
pub mod Outboxes
pub mod Returning
