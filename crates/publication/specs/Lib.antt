pub mod Lists
pub mod Names
pub mod Outings
pub mod Views
