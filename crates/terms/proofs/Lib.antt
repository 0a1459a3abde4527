-- The laws of `terms` that belong to no one function.
-- the number of a call that takes a state, and what the number 0 says
pub mod Graded
-- what a step of 2 or 4 cycles does to the cycle
pub mod Pace
