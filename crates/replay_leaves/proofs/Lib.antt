-- The laws of `replay_leaves` that belong to no one function.
-- the index port at the start
mod Index
