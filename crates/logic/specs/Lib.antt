-- What every crate's definitions may cite.
pub mod Every
