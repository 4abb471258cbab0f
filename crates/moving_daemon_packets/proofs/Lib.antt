-- The lemmas of the laws about packets that move between routers in processes of their own.
pub mod Calm
pub mod Raised
pub mod Unpublished
pub mod Flights
pub mod Hops
pub mod Example
