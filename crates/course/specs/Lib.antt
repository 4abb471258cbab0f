pub mod Counts
pub mod Course
pub mod Turns
pub mod Links
pub mod Images
