pub mod Origin
pub mod Ports
