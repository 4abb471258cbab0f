-- The definitions of the laws about packets.
pub mod Packets
pub mod LinkEnds
