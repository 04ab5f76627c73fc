pub mod Unit
pub mod Vertex
pub mod Around
pub mod Offload
pub mod On
