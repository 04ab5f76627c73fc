pub mod Words
pub mod Ends
pub mod Lists
pub mod Tables
pub mod UnitSteps
pub mod InUse
pub mod Opens
