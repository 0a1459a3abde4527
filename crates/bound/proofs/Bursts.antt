-- The draws of a step are draws under the window's own condition, so what holds under any condition holds of them.
use mathlib.Core.Path.{◌≡◌, refl, sym, ap, ◌∙◌}
use mathlib.Core.Bool.{Bool, true}
use mathlib.Core.Logic.{◌⊎◌}
use mathlib.Core.List.{List, [], ◌∷◌}
use Prim.Native.Nat.{ℕ, zero, suc, ◌+◌, ◌≤◌}
use lib.ListN.{length}
use Rattle.state.specs.With.{mode_of}
use Rattle.state.specs.declared.State.{State}
use Rattle.order.specs.Fine.{Fine}
use Rattle.pipe.specs.Window.{opened}
use Rattle.draw.specs.Draw.{drawn}
use Rattle.burst.specs.Burst.{Burst, burst}
use Rattle.burst.proofs.Ways.{burst_in, burst_out, burst_none}
use Rattle.bound.specs.Potential.{left, Paced, Steady, draws_if}
use Rattle.bound.proofs.Line.{draws_cases, draws_fall, draws_window, draws_paced, draws_loose}

-- whether the window is open at each of n draws
unfoldable openings : ℕ → List ℕ → State → List Bool
openings zero vram s = []
openings (suc n) vram s = opened s.regs s.beam.line ∷ openings n vram (drawn vram s).state

no_draws : (vram : List ℕ) (s : State) → draws_if [] vram s ≡ s
unfolding draws_if
no_draws vram s = refl

as_many : (n : ℕ) (vram : List ℕ) (s : State) → length (openings n vram s) ≡ n
unfolding openings
as_many zero vram s = refl
as_many (suc n) vram s = ap suc (as_many n vram (drawn vram s).state)

same : (n : ℕ) (vram : List ℕ) (s : State) → draws_if (openings n vram s) vram s ≡ (burst n vram s).state
unfolding openings
same zero vram s = no_draws vram s ∙ sym (ap (λ (b : Burst). b.state) (burst_none vram s))
same (suc n) vram s =
    draws_cases (opened s.regs s.beam.line) (openings n vram (drawn vram s).state) vram s
    (λ (u : State). u ≡ (burst (suc n) vram s).state)
    (λ m. same n vram (drawn vram s).state ∙ sym (ap (λ (b : Burst). b.state) (burst_in n vram s m)))
    (λ m. sym (ap (λ (b : Burst). b.state) (burst_out (suc n) vram s m)))

module _ (n : ℕ) (vram : List ℕ) (s : State) where
  -- what holds of draws under these conditions holds of the draws of a step
  carried : (P : ℕ → State → Type 0) → P (length (openings n vram s)) (draws_if (openings n vram s) vram s) → P n (burst n vram s).state
  carried P h = rw (as_many n vram s, same n vram s) at h

  stayed : mode_of (burst n vram s).state.regs.stat ≡ 3 → mode_of (draws_if (openings n vram s) vram s).regs.stat ≡ 3
  stayed m = rw (same n vram s) m

  pub burst_falls : Fine s → Steady s.beam.x s.pipe → mode_of (burst n vram s).state.regs.stat ≡ 3
      → (left (burst n vram s).state + n ≤ left s) × Steady (burst n vram s).state.beam.x (burst n vram s).state.pipe
  burst_falls f t m =
      carried (λ (k : ℕ) (u : State). (left u + k ≤ left s) × Steady u.beam.x u.pipe) (draws_fall (openings n vram s) vram s f t (stayed m))

  pub burst_window : s.pipe.window ≡ true → mode_of (burst n vram s).state.regs.stat ≡ 3 → (burst n vram s).state.pipe.window ≡ true
  burst_window i m = carried (λ (k : ℕ) (u : State). u.pipe.window ≡ true) (draws_window (openings n vram s) vram s i (stayed m))

  pub burst_paced : Paced s.pipe → mode_of (burst n vram s).state.regs.stat ≡ 3 → Paced (burst n vram s).state.pipe
  burst_paced o m = carried (λ (k : ℕ) (u : State). Paced u.pipe) (draws_paced (openings n vram s) vram s o (stayed m))

  pub burst_loose : Fine s → Paced s.pipe → mode_of (burst n vram s).state.regs.stat ≡ 3
      → ((burst n vram s).state.pipe.window ≡ true) ⊎ (left (burst n vram s).state + n ≤ left s)
  burst_loose f o m =
      carried (λ (k : ℕ) (u : State). (u.pipe.window ≡ true) ⊎ (left u + k ≤ left s)) (draws_loose (openings n vram s) vram s f o (stayed m))
