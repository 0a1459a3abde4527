-- What the contracts of `sprite_lists` cite.
pub mod Edits
