pub mod Documents
pub mod Listed
pub mod Leading
pub mod Alone
pub mod Stepping
pub mod Reading
pub mod Tallies
pub mod Timing
