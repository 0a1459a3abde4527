-- The laws of `registers` that belong to no one function.
-- what a search of the table finds from an entry on
pub mod Entries
-- what a write keeps of VBK and of STAT
pub mod Kept
-- a register write and the colour flag keep a state in order; a write keeps the mode
pub mod Fine
-- the table names each address once, and the rules of a write name no other
pub mod Table
