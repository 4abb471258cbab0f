pub mod Document
pub mod Given
pub mod Lines
pub mod Times
pub mod Runs
pub mod Tallies
pub mod Ends
pub mod Steps
