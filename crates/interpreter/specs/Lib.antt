pub mod Settling
pub mod Nets
pub mod Commands
pub mod Traces
pub mod Dispatching
