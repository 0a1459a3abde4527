-- What the contracts of `oam_bug` cite.
pub mod Words
pub mod Corruption
pub mod Kinds
