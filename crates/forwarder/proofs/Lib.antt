pub mod Counts
pub mod Later
pub mod Replying
