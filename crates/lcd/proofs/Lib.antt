-- The laws of `lcd` that belong to no one function.
-- the choice between the two pictures
pub mod Chosen
-- the lengths of the two pictures, from the test and back
pub mod Pictures
-- sums of shifts
pub mod Shifts
-- the sums of `mixed`
pub mod Sums
