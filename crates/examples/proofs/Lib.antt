-- 01's examples hold.
pub mod Examples
