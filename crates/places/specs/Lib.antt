pub mod Ends
pub mod Places
pub mod Tie
pub mod Wired
