pub mod Documents
mod Whole
pub mod Planned
pub mod Stops
