pub mod Beginnings
pub mod Announcing
