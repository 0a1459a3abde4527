-- What every refusal cites.
pub mod Ladder
-- the numbers of the table, as an answer has them
pub mod Refused
