-- What the contracts of `wire` cite.
pub mod Fnv
