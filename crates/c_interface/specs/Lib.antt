pub mod Faults
pub mod Handles
pub mod Rows
