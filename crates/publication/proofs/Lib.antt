pub mod Beginnings
pub mod Ruling
pub mod RowsAgain
pub mod Tables
pub mod Waiting
pub mod Places
pub mod Same
pub mod Outings
