-- The definitions of the laws about routers that may forward by many next hops.
pub mod Network
pub mod Packets
pub mod Quiet
pub mod Journeys
pub mod QuietWorlds
pub mod InForce
pub mod HopsAtQuiet
