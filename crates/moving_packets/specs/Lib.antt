-- The definitions of the laws about packets that move while steps of every kind are done.
pub mod Moving
