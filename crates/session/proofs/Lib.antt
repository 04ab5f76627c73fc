pub mod Answers
pub mod Flags
pub mod Turns
pub mod Again
pub mod Ends
pub mod Cuts
pub mod Carried
pub mod Demand3
