-- What the contracts of `step` cite.
pub mod Step
pub mod Work
pub mod End
