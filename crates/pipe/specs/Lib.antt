-- What the contracts of `pipe` cite.
pub mod Window
pub mod Fetching
