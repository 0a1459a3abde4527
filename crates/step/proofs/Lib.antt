-- The laws of `step` that belong to no one function.
-- what the parts of a step keep: the order, and where the beam stands
pub mod Keeps
-- the end of a step on the groups that it changes
pub mod Ends
