pub mod Options
pub mod Ranks
pub mod HighestBit
pub mod Finds
pub mod RowsSet
