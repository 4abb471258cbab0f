pub mod AddressTexts
pub mod PrefixTexts
pub mod PrefixOrder
pub mod LongestMatches
pub mod SortedRows
pub mod Tables
pub mod TableRows
mod Parsing
mod Rows
