pub mod WritersOut
pub mod Served
pub mod Shares
