-- The proofs of timed simulations.
pub mod Lists
pub mod Moments
pub mod Runs
pub mod Ports
pub mod Soonest
pub mod Rising
pub mod Timely
pub mod Steps
pub mod First
pub mod OnTime
pub mod Since
pub mod Motions
pub mod Lawful
pub mod Rest
pub mod Apart
pub mod Nexts
pub mod Example
