-- What holds of the shared state between two requests.
use Rattle.std.specs.Prelude.{◌<◌, ◌≤◌}
use Rattle.replay_leaves.specs.declared.bench.Bench.{Bench}

-- the index port points into the palettes, and one of two pictures is shown
pub record Sound (b : Bench) : Type 0 where
  pub index : b.palettes.set.index < 64
  pub shown : b.pictures.shown ≤ 1
