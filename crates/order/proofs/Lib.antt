-- The laws of `order` that belong to no one function.
-- the pixels queued in a ring, tested by their places
pub mod Tested
-- the clauses of a state in order as facts, and back
pub mod Clauses
