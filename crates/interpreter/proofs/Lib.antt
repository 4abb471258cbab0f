mod Doing
mod Links
mod Answering
mod Settling
mod Crossings
pub mod Dispatching
