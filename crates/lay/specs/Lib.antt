pub mod Placing
pub mod Put
