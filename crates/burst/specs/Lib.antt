-- What the contracts of `burst` cite.
pub mod Burst
