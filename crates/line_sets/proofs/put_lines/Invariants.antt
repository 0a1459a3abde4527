-- The invariant: the lines of the rows so far have the entry put in, or taken out.
use Rattle.std.proofs.Common.{◌≡◌, ℕ, ◌<◌, ◌≤◌, Bool, List, length, get_or}
use Rattle.hardware.specs.Screen.{height}
use Rattle.line_sets.specs.Lines.{put_on}
use Rattle.line_sets.proofs.put_lines.Given as goal

-- a line's set once the first rows are through
unfoldable pub PutTo : List ℕ → ℕ → Bool → ℕ → ℕ → List ℕ → Type 0
PutTo sets₀ i on y row sets = (line : ℕ) → line < height → get_or sets line 0 ≡ put_on i on y row sets₀ line

abbrev pub invariant-loop-row : goal.invariant-loop-row
invariant-loop-row l = (l.row ≤ l.tall) × (length l.sets ≡ length l.initial.sets) × PutTo l.initial.sets l.i l.on l.y l.row l.sets
