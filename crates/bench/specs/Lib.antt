-- What the contracts of `bench` cite: what is counted.
pub mod Counts
