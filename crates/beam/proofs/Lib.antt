-- The laws of `beam` that belong to no one function.
-- the ways of the cycle that advances, and whether it swaps
pub mod Ways
-- it keeps a state in order
pub mod Fine
-- what a mark says
pub mod Marks
