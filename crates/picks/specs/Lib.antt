-- What the contracts of `picks` cite.
pub mod Request
