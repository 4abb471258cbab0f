-- The lemmas of the laws about many next hops of routers in processes of their own.
pub mod Shown
pub mod Told
pub mod Kept
pub mod Ways
pub mod Alone
pub mod Resting
pub mod Example
pub mod RestExample
