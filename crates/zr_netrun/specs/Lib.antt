pub mod Status
pub mod Judged
pub mod Clauses
pub mod Counted
pub mod Told
pub mod Ended
