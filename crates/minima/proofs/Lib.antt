-- The proofs of trees of least pairs.
pub mod Pairs
pub mod Nodes
pub mod Written
pub mod First
pub mod Example
