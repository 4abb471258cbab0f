pub mod Books
pub mod Queues
pub mod Shown
pub mod Values
pub mod Recorders
pub mod Marks
pub mod Told
