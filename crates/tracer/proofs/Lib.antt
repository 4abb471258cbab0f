-- The proofs of the traces of a fabric.
pub mod Walks
