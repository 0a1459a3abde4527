-- The laws of `sprite_lists` that belong to no one function.
-- edits as pairs of bytes
mod Chunks
