-- What the contracts of `colors` cite.
pub mod Colour
pub mod Palettes
pub mod Shade
