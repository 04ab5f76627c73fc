pub mod Table
pub mod Fields
pub mod Unpacking
pub mod Bounds
pub mod KindOfWord
pub mod UnpackOfPack
pub mod Bits
pub mod PackOfUnpack
