-- The lemmas of the laws about routers that may forward by many next hops.
pub mod Shown
pub mod Moved
pub mod Kept
pub mod Walks
pub mod Feasible
pub mod Ripening
pub mod Runs
pub mod Packets
pub mod AtQuiet
pub mod Example
pub mod Journeys
pub mod QuietWorlds
pub mod Offered
pub mod First
pub mod InForce
pub mod HopsAtQuiet
