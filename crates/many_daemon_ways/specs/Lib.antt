-- The definitions of the laws about many next hops of routers in processes of their own.
pub mod Packets
pub mod Rest
pub mod Reached
