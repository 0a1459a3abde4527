-- What the contracts of `beam` cite.
pub mod Advance
pub mod Marks
