-- The cycle advances: from the phase before it to the phase after it.
use mathlib.Core.Path.{◌≡◌, refl}
use mathlib.Core.Bool.{Bool, cond}
use mathlib.Core.Logic.{◌⊎◌, inl, inr, ⊎_elim}
use mathlib.Core.List.{List, []}
use Prim.Native.Nat.{ℕ, ◌+◌, ◌≤◌, ◌<◌}
use native.Mathlib.Omega.{arith}
use native.Mathlib.Decide.{dec_lt}
use Rattle.hardware.specs.Screen.{height, line_cycles, frame_lines}
use Rattle.state.specs.declared.State.{State}
use Rattle.order.specs.Fine.{Fine}
use Rattle.beam.specs.Advance.{swaps, in_line, in_next_line, in_next_frame, advanced}
use Rattle.beam.proofs.Ways.{advanced_cases}
use Rattle.bound.specs.Potential.{left}
use Rattle.bound.proofs.Potential.{left_positive}
use Rattle.history.proofs.Rising.{none}
use Rattle.history.proofs.Phase.{Base, swap_base, up_same, up_less, at0, Phase, Mid, PhaseOf, MidOf}

less_or : (line : ℕ) → line < height → (line + 1 < height) ⊎ (line + 1 ≡ height)
less_or line h = by (dec_lt (line + 1) height)
  where
    by : Dec (line + 1 < height) → (line + 1 < height) ⊎ (line + 1 ≡ height)
    by (yes k) = inl k
    by (no k) = inr (omega arith)

module _ (base : Base) (n : ℕ) (s : State) (f : Fine s) (some : 0 < n) where
  -- within the line
  within : {l : List ℕ} → (s.beam.cycle + n ≡ line_cycles → ⊥) → MidOf base n s l → PhaseOf base (in_line n s) l
  within o (Mid.before m low line e up) = Phase.before m low line e up
  within o (Mid.tight m low line t h up) = Phase.tight m (omega arith) line t h up
  within o (Mid.loose z m low line p h up) = Phase.loose z m (omega arith) line p h up
  within o (Mid.ended m low line x up) = Phase.ended m (omega arith) line x up
  within o (Mid.rest m line x up) = Phase.rest m line x up

  -- mode 3 is over where a steady line ends
  never : left s + (s.beam.cycle + n) ≤ 284 → s.beam.cycle + n ≡ line_cycles → ⊥
  never h e = let p = left_positive s f.beam.x in omega arith

  -- the next line
  next_line_law : {l : List ℕ} → s.beam.cycle + n ≡ line_cycles → (s.beam.line + 1 ≡ frame_lines → ⊥) → MidOf base n s l
      → PhaseOf base (in_next_line s) l
  next_line_law e o (Mid.before m low line k up) = absurd (omega arith)
  next_line_law e o (Mid.tight m low line t h up) = absurd (never h e)
  next_line_law e o (Mid.loose z m low line p h up) =
      ⊎_elim (λ w. Phase.carried z (omega arith) refl w (up_less z (omega arith) up)) (λ k. absurd (never k e)) h
  next_line_law {l} e o (Mid.ended m low line x up) = by (less_or s.beam.line line)
    where
      by : (s.beam.line + 1 < height) ⊎ (s.beam.line + 1 ≡ height) → PhaseOf base (in_next_line s) l
      by (inl k) = Phase.before m (omega arith) k (at0 x) (up_same (omega arith) up)
      by (inr k) = Phase.rest m (omega arith) x (up_same (omega arith) up)
  next_line_law e o (Mid.rest m line x up) = Phase.rest m (omega arith) x up

  -- a swap: the list is forgotten
  next_frame_law : s.beam.line + 1 ≡ frame_lines → {l : List ℕ} → MidOf base n s l → PhaseOf swap_base (in_next_frame s) []
  next_frame_law e (Mid.before m low line k up) = absurd (omega arith)
  next_frame_law e (Mid.tight m low line t h up) = absurd (omega arith)
  next_frame_law e (Mid.loose z m low line p h up) = absurd (omega arith)
  next_frame_law e (Mid.ended m low line x up) = absurd (omega arith)
  next_frame_law e (Mid.rest m line x up) =
      let z : 0 ≤ 0 = omega arith in
      Phase.before m (omega arith) (omega arith) (at0 refl) (record { rises = none z; fills = λ e. refl })

  pub onward_phase : {l : List ℕ} → MidOf base n s l → PhaseOf (cond (swaps n s.beam) swap_base base) (advanced n s) (cond (swaps n s.beam) [] l)
  onward_phase {l} k =
      advanced_cases n s (λ (b : Bool) (u : State). PhaseOf (cond b swap_base base) u (cond b [] l))
      (λ e. within e k) (λ e g. next_line_law e g k) (λ e g. next_frame_law g k)
