pub mod Ends
pub mod Works
pub mod Replays
pub mod Outcomes
