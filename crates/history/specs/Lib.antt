-- Runs of the public calls, and what is proved of them.
pub mod Run
pub mod Public
pub mod Stored
pub mod Demand
-- the one corruption call stands for the three
pub mod AsBefore
-- a locked write is the unlocked one or none
pub mod Locks
