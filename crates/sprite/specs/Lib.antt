-- What the contracts of `sprite` cite.
pub mod Oam
pub mod Pick
