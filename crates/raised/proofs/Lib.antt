pub mod Counted
pub mod Next
