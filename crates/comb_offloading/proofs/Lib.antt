pub mod Counted
pub mod Listed
pub mod Turns
pub mod Ends
