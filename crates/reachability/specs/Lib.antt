-- The definitions of who is cut off.
pub mod Ways
pub mod Marks
pub mod Rounds
