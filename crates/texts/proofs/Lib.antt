pub mod Appends
pub mod Numbers
