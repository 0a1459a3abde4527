-- The laws of `filing` that belong to no one function.
-- the words of marks, and the last part of a path
pub mod Names
-- when there is a file, and its parts
pub mod Files
-- a name tells its mark, and a file is read back
pub mod Laws
