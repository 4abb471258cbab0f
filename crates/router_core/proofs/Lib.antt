pub mod ControlRows
pub mod Ports
pub mod Refused
pub mod Meetings
pub mod Kept
pub mod Opening
pub mod Notices
