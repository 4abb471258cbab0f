pub mod Prefix
pub mod LongestMatch
pub mod Texts
pub mod Faults
pub mod Tables
