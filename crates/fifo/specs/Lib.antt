-- What the contracts of `fifo` cite, and in Laws what the queues do as lists.
pub mod Ring
pub mod Background
pub mod Sprites
pub mod Laws
