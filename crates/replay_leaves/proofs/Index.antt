-- The law of the index port: it points into the palettes, at the start and ever after, and one of two pictures is shown.
use mathlib.Core.Path.{◌≡◌}
use Prim.Native.Nat.{◌<◌}
use native.Mathlib.Omega.{arith}
use Rattle.colors.specs.Palettes.{fresh_set}
use Rattle.colors.specs.declared.PaletteSet.{PaletteSet}
use Rattle.replay_leaves.specs.Sound.{Sound}
use Rattle.replay_leaves.specs.declared.bench.Bench.{Bench}

pub at_start : {r : PaletteSet} → r ≡ fresh_set → r.index < 64
at_start e = rw e (omega arith)

-- every state that requests share
pub always : (b : Bench) → Sound b
always b = record { index = b.palettes.in_range; shown = b.pictures.one_of_two }
