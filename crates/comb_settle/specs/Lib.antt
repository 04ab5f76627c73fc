pub mod Settled
pub mod Carried
pub mod Wiring
pub mod Marked
pub mod Far
pub mod Unled
pub mod On
