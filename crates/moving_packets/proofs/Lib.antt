-- The lemmas of the laws about packets that move while steps of every kind are done.
pub mod Reached
pub mod Returns
pub mod Calm
pub mod Rises
pub mod Hops
pub mod Unpublished
pub mod Example
