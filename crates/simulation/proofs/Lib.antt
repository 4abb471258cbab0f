-- The proofs of simulations.
pub mod InForce
pub mod Simulations
pub mod Headline
pub mod Turning
pub mod Walks
pub mod Example
