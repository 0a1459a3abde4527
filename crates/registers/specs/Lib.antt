-- What the contracts of `registers` cite.
pub mod Registers
pub mod Write
pub mod Table
