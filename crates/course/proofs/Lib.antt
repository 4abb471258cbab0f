-- The proofs of courses.
pub mod Elements
pub mod Courses
pub mod Idle
pub mod Links
pub mod Leaving
pub mod Turning
pub mod Images
pub mod Example
