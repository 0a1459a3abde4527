-- The laws of `line_sets` that belong to no one function.
-- a number and its bits
pub mod Bits
-- the entries of a set, read off its number
pub mod Members
-- an entry put into a set, or taken out, by the operations on numbers
pub mod InOut
-- a call's number by the lengths of its slices
pub mod Lengths
-- a call that is not refused
pub mod Accepted
-- the lines of the picture, the rows of a sprite on them, and a number a line
pub mod Lines
-- an entry that moves from one y to another
pub mod Moves
-- what is true of the sets of OAM
pub mod Laws
-- how many lines a sprite touches, and how many sets a write changes
pub mod Few
-- two results that a promise allows coincide
pub mod Coincide
