pub mod Splitting
pub mod Chunks
pub mod Cuts
pub mod Session
