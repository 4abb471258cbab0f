mod Joined
mod Rows
pub mod Printed
