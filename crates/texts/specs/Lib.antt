-- Bytes put into a slice one behind the other, and numbers as text.
pub mod Appended
pub mod Numbers
pub mod Laws
pub mod Room
