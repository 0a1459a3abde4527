-- What the contracts of `replay_leaves` cite.
pub mod Sound
