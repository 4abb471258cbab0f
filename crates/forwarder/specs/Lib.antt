pub mod Replies
pub mod Ports
pub mod Gathering
