pub mod Check
pub mod Accepted
