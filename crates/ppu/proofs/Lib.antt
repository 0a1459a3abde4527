-- The laws of `ppu` that belong to no one function.
-- the answers of a step are equal by their parts
pub mod Answers
-- no promise leaves freedom
pub mod Coincide
