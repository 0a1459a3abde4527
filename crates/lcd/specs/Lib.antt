-- What the contracts of `lcd` cite.
pub mod Mix
pub mod Pictures
