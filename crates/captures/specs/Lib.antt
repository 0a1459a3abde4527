-- What the contracts of `captures` cite: what a line of a capture says, and a call's line.
-- the words of a line
pub mod Words
-- the words that have a meaning
pub mod Names
-- numbers read from their digits
pub mod Numbers
-- what a line says
pub mod Reading
-- a call's canonical text
pub mod Printing
-- what the reader's parts promise
pub mod Parts
-- what is true of the two
pub mod Laws
