-- The laws of `pixel` that belong to no one function.
-- the sprites laid into the queue keep it in order, and what is popped and seen has a colour number
pub mod Added
