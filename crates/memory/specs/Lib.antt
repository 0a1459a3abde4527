-- What the contracts of `memory` cite.
pub mod Fresh
pub mod Writes
pub mod Reads
