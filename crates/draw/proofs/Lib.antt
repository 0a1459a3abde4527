-- The laws of `draw` that belong to no one function.
-- the ways of a draw, by state and answer
pub mod Ways
-- the parts of a draw keep a state in order
pub mod Fine
-- its two halves
pub mod Halves
