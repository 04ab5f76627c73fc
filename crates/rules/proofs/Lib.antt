pub mod Round
pub mod Text
pub mod Computed
pub mod Judged
