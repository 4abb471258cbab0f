pub mod Number
pub mod Words
pub mod Lines
pub mod Lists
