pub mod Awaited
pub mod Event
pub mod Outbox
pub mod Parts
pub mod State
