pub mod Execution
pub mod Walked
pub mod Tight
pub mod Led
