-- Laws that belong to no one crate.
-- a branch by its test; what a test that was taken or left shows
pub mod Tests
-- `&&` by its parts
pub mod Both
-- a test of every element of a list, by the parts of the list
pub mod Every
-- an element of a list that is made element by element
pub mod Mapped
-- that test by the library's word
pub mod Listed
