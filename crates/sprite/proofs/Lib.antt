-- The laws of `sprite` that belong to no one function.
-- entries that pass a test
pub mod Those
-- the slots of a selection, filled one by one
pub mod Slots
-- that the answer to a pick is told by what its promise speaks of
pub mod Tells
