pub mod Network
pub mod Facts
