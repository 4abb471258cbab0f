pub mod Spells
pub mod Going
pub mod Records
pub mod Looks
pub mod Reports
pub mod Recordings
