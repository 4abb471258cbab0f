-- The definitions of the law about networks at rest.
pub mod Routes
pub mod Settled
