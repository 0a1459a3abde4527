-- What the contracts of `draw` cite.
pub mod Draw
pub mod Halves
