pub mod Changes
mod Answers
pub mod Rooms
