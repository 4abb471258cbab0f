pub mod Served
pub mod Names
pub mod Shares
