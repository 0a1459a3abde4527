-- The laws of `modes` that belong to no one function.
-- the ways of a mode that begins, and of the search of a line
pub mod Ways
-- at most ten are selected, each of the forty
pub mod Selected
-- a mode that begins, a search and a comparison keep a state in order
pub mod Fine
