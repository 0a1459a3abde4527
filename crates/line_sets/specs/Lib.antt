-- What the contracts of `line_sets` cite, and the laws that are proved of them.
pub mod Sets
pub mod Lines
pub mod Numbers
pub mod Calls
pub mod Laws
