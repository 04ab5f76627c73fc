pub mod Checks
pub mod Counts
pub mod Walks
pub mod Opening
