-- The laws of `burst` that belong to no one function.
-- a run of draws by its mode, and what each draw answers
pub mod Ways
-- what a run keeps: the order, line, cycle, the picture shown and LCDC
pub mod Keep
