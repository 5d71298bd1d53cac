pub mod Loops
pub mod Ending
pub mod Placed
pub mod OnLinks
pub mod Asking
