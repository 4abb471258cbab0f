pub mod Parts
pub mod Place
pub mod PrefixMap
pub mod Rows
