pub mod Tracing
pub mod Following
pub mod Faults
