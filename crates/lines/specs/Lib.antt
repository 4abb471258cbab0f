pub mod Texts
pub mod Objects
pub mod Lines
pub mod Formats
pub mod Report
pub mod Waiting
pub mod States
