pub mod Ends
pub mod Hands
pub mod Jobs
