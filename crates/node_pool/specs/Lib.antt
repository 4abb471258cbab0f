pub mod Cell
pub mod FreeLists
pub mod Pool
pub mod Blocks
