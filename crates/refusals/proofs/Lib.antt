-- Laws of the ladder of refusals.
-- what a number says of the tests, and which numbers are never given
pub mod Ladder
-- that an answer is told by its number and its value
pub mod Tells
-- the ladder as the code has it, test by test
pub mod Rungs
-- what a call leaves, refused or done
pub mod Given
