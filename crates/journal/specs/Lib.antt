pub mod Steps
pub mod Journal
pub mod Kinds
