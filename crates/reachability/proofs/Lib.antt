-- The proofs of who is cut off.
pub mod Marking
pub mod Rounds
pub mod OverLinks
pub mod ByRows
pub mod Laws
pub mod Joined
pub mod Example
