pub mod Bits
pub mod Greatest
