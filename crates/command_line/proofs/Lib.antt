pub mod Building
pub mod Given
pub mod Lines
pub mod Narrowed
pub mod Plain
pub mod Rows
pub mod Subcommands
pub mod Viewed
