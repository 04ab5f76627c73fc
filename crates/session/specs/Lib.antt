pub mod Chunk
pub mod Calls
