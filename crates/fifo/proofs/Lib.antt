-- The laws of `fifo` that belong to no one function.
-- a ring of slots, over its size: what is queued in it, and what is laid into it
pub mod Ring
-- the background queue as a list: specs/Laws is so
pub mod Background
-- the sprite queue as a list: specs/Laws is so
pub mod Sprites
