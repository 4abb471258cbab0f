pub mod Blocks
pub mod Laid
pub mod Pools
pub mod Start
pub mod Sizes
pub mod Reading
