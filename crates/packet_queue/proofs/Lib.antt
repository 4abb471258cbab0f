pub mod Fair
pub mod Jobs
pub mod Lists
