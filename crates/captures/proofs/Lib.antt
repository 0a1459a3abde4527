-- The laws of `captures` that belong to no one function.
-- the words of a text, byte by byte
pub mod Texts
-- a number read from its digits: how large it gets
pub mod Numbers
-- a call's text put into the buffer
pub mod Buffer
-- what an argument's word can mean, and how a call goes on behind it
pub mod Arguments
-- what is true of the reading and the printing
pub mod Laws
