mod Kept
mod Trying
mod Stepping
pub mod Working
pub mod Replays
