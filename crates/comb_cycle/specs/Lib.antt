pub mod Cycled
pub mod Listed
pub mod Rank
pub mod Responses
pub mod Stages
pub mod Strongest
pub mod On
