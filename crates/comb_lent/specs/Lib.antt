pub mod Whole
pub mod Fresh
pub mod Again
pub mod Raised
pub mod Calls
