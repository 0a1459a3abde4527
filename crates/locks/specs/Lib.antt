-- What the promises of `locks` cite.
-- when a memory is closed
pub mod Closed
-- the four locked calls
pub mod Calls
-- an open read gives what an open write stored
pub mod Laws
