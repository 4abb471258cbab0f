pub mod Bits
pub mod Hit
pub mod Lane
pub mod Tree
