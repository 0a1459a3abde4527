-- What the terms of the public calls cite.
pub mod Numbers
