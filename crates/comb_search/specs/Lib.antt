pub mod Turn
pub mod Seek
pub mod Repeats
