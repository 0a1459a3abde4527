-- What the laws of `bound` cite.
pub mod Potential
