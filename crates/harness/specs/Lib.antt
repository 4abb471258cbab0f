pub mod Outcomes
pub mod Wanted
