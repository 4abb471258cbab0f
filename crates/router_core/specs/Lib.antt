pub mod Alone
pub mod Effects
pub mod Parts
pub mod Room
pub mod Router
