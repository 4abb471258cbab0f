-- The lemmas of the law about networks at rest.
pub mod Worlds
pub mod Silent
pub mod Still
pub mod Homes
pub mod Ways
pub mod Routes
pub mod Settled
pub mod Example
