-- The laws of `locks` that belong to no one function.
-- a closed memory and an open one behind a number
pub mod Behind
-- no promise leaves freedom
pub mod Coincide
-- an open read gives what an open write stored
pub mod Back
