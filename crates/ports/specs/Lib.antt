-- What the promises of `ports` cite.
-- the answers, and how those of the code are read as them
pub mod Answers
pub mod Calls
-- each kind of corruption is what its own call was
pub mod AsBefore
