pub mod Patches
pub mod Simulation
pub mod Headline
pub mod Settling
pub mod Tracing
