-- The laws of `tiles` that belong to no one function.
-- where a row stands
pub mod Rows
-- rows have eight colours, each at most 3
pub mod Colours
-- without their source they are those of before; and a source is true
pub mod Sources
