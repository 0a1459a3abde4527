-- The laws of `hardware`.
-- the lengths of the tables, from the test and back
pub mod Tables
