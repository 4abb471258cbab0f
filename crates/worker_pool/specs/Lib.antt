pub mod Crews
pub mod Faults
