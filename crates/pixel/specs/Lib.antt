-- What the contracts of `pixel` cite.
pub mod Sprites
pub mod Mixer
