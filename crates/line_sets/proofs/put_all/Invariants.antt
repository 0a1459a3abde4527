-- The invariant: each line's set has those of the entries so far that touch it.
use Rattle.std.proofs.Common.{◌≡◌, ℕ, ◌-◌, ◌<◌, ◌≤◌, Bool, ◌&&◌, ltb, List, length, get_or}
use Rattle.hardware.specs.Screen.{height}
use Rattle.sprite.specs.Pick.{touches}
use Rattle.line_sets.specs.Sets.{entries, set_of}
use Rattle.line_sets.proofs.put_all.Given as goal

-- those of the first n entries that touch a line
abbrev pub firsts : List ℕ → ℕ → ℕ → ℕ → ℕ → Bool
firsts oam line tall n j = ltb j n && touches oam line tall j

pub record Has (oam : List ℕ) (tall n : ℕ) (sets : List ℕ) : Type 0 where
  pub sized : length sets ≡ height
  pub each : (line : ℕ) → line < height → get_or sets line 0 ≡ set_of (firsts oam line tall n)

abbrev pub invariant-loop-i : goal.invariant-loop-i
invariant-loop-i l = (l.i ≤ entries) × Has l.oam l.tall l.i l.sets

abbrev pub decreases-loop-i : goal.decreases-loop-i
decreases-loop-i l = entries - l.i
