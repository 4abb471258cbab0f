-- The proofs of what goes on.
pub mod Lists
pub mod OneMore
pub mod Recorded
pub mod OneByOne
pub mod Machines
pub mod Alike
pub mod Beside
pub mod Known
pub mod AtRest
pub mod Stops
pub mod Watching
pub mod Blocks
pub mod Marking
pub mod Whole
pub mod Example
