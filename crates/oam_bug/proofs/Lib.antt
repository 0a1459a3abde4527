-- The laws of `oam_bug` that belong to no one function.
-- lengths, the words of a row after a store, the bytes outside it
pub mod Rows
-- the rule of each kind, and lengths again
pub mod Rules
