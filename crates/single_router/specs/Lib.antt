pub mod Bounded
pub mod Calls
pub mod Frames
pub mod Handles
pub mod Inputs
pub mod Openings
pub mod Publishing
pub mod States
