-- The laws of `ports` that belong to no one function.
-- an accepted corruption
pub mod Bug
-- each kind is what its own call was
pub mod AsBefore
-- an answer with the state as given; answers are equal by their parts
pub mod Answers
-- no promise leaves freedom
pub mod Coincide
