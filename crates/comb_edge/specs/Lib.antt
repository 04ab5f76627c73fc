pub mod Edge
pub mod Tables
