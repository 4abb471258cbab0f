-- The definitions of the laws about packets that move between routers in processes of their own.
pub mod Moving
pub mod Flights
pub mod Hops
