-- The laws of `memory` that belong to no one function.
-- the fresh state is in order
pub mod Fine
