pub mod Ways
pub mod Seeks
pub mod Again
