-- The laws of `pipe` that belong to no one function.
-- the ways of the window, of the fetcher and of the row that goes in
pub mod Ways
-- each of them keeps a pipe in order
pub mod Fine
