-- The crate's definitions.
pub mod Wrap
