-- What the contracts cite of the machine's measures, its modes, and the tables that are lent.
pub mod Modes
pub mod Screen
pub mod Tables
