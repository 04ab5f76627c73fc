pub mod Settling
pub mod Reporting
pub mod Marking
