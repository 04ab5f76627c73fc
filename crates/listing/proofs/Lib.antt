pub mod Puts
pub mod Digits
pub mod Numbers
pub mod Whole
