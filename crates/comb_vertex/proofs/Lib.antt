pub mod Walks
pub mod Executing
