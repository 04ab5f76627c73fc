pub mod Sound
pub mod Place
pub mod Packing
pub mod Spare
