-- The state with one group changed, the mode that STAT holds, and the sizes of what a state holds.
pub mod With
pub mod Shape
