-- What the public promises cite.
-- the answer to a step
pub mod Answers
pub mod Calls
-- how the answers of the code are read
pub mod Answered
