pub mod Links
pub mod Timed
pub mod Events
pub mod Due
pub mod Since
pub mod Runs
pub mod Kinds
pub mod Next
