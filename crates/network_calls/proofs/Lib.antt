pub mod Lists
pub mod Ran
pub mod Items
pub mod Given
pub mod Going
pub mod Words
pub mod Crossing
