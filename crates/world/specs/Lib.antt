pub mod Headline
pub mod Kept
pub mod Parts
pub mod Steps
pub mod Waiting
pub mod Rest
pub mod Touched
pub mod Given
