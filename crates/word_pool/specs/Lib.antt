pub mod Heap
pub mod Layout
pub mod Pool
