pub mod Records
pub mod Chunks
pub mod Session
pub mod Answered
