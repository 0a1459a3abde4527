-- What the contracts of `tiles` cite.
pub mod Tile
pub mod Map
pub mod Objects
-- the same readings, with where each row was read
pub mod Sources
-- what a source is good for
pub mod Laws
