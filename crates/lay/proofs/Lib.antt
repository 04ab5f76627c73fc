pub mod Grown
pub mod Laying
pub mod Parts
pub mod Room
pub mod Turns
pub mod Wiring
