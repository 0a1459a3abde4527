-- A run of draws, whatever the window's condition at each, lowers the number of draws left by as many as it has, or ends the line.
use mathlib.Core.Path.{◌≡◌, refl}
use mathlib.Core.Bool.{Bool, true, false}
use mathlib.Core.Logic.{◌⊎◌, inl, inr, ⊎_elim}
use mathlib.Core.List.{List, [], ◌∷◌}
use Prim.Native.Nat.{ℕ, suc, ◌+◌, ◌≤◌, ◌<◌}
use native.Mathlib.Omega.{arith}
use borrow.Author.Tests.{ne_eqb, eqb-true, eqb-false}
use lib.Dec.{eqb}
use lib.ListN.{length}
use Rattle.logic.proofs.Tests.{by_test}
use Rattle.state.specs.With.{mode_of}
use Rattle.state.specs.declared.State.{State}
use Rattle.order.specs.Fine.{Fine}
use Rattle.draw.specs.Draw.{drawn_if}
use Rattle.draw.proofs.Fine.{drawn_fine}
use Rattle.bound.specs.Potential.{left, Paced, Steady, Ended, draws_if, LineEnds}
use Rattle.bound.proofs.Potential.{left_positive, falls, steady_kept, window_kept, paced_kept, entered_or_falls, ends_at_zero}

-- outside mode 3 nothing is drawn
draws_out : (coins : List Bool) (vram : List ℕ) (s : State) → (mode_of s.regs.stat ≡ 3 → ⊥) → draws_if coins vram s ≡ s
unfolding draws_if
draws_out [] vram s m = refl
draws_out (allowed ∷ rest) vram s m = rw (ne_eqb _ _ m)

-- in mode 3 a draw and the others, else none
pub draws_cases : (allowed : Bool) (rest : List Bool) (vram : List ℕ) (s : State) (P : State → Type 0)
    → (mode_of s.regs.stat ≡ 3 → P (draws_if rest vram (drawn_if allowed vram s).state))
    → ((mode_of s.regs.stat ≡ 3 → ⊥) → P s)
    → P (draws_if (allowed ∷ rest) vram s)
unfolding draws_if
draws_cases allowed rest vram s P more none =
    by_test P (eqb (mode_of s.regs.stat) 3) (λ e. more (eqb-true _ _ e)) (λ e. none (eqb-false _ _ e))

-- a run that stays in mode 3 began in it
began : (coins : List Bool) (vram : List ℕ) (s : State) → mode_of (draws_if coins vram s).regs.stat ≡ 3 → mode_of s.regs.stat ≡ 3
began coins vram s m = by (eqb (mode_of s.regs.stat) 3) refl
  where
    by : (b : Bool) → eqb (mode_of s.regs.stat) 3 ≡ b → mode_of s.regs.stat ≡ 3
    by true e = eqb-true _ _ e
    by false e = rw (draws_out coins vram s (eqb-false _ _ e)) at m

-- by one draw and the run after it: what holds of no draw, and is carried by one, holds of a run that stays in mode 3
module _ (vram : List ℕ) (P : ℕ → State → State → Type 0) (none : (s : State) → P 0 s s)
    (more : (n : ℕ) (allowed : Bool) (s u : State) → mode_of (drawn_if allowed vram s).state.regs.stat ≡ 3 → P n (drawn_if allowed vram s).state u
    → P (suc n) s u) where
  run_cases : (coins : List Bool) (s : State) → mode_of (draws_if coins vram s).regs.stat ≡ 3 → P (length coins) s (draws_if coins vram s)
  unfolding draws_if
  run_cases [] s = λ m. none s
  run_cases (allowed ∷ rest) s =
      let t = (drawn_if allowed vram s).state in
      draws_cases allowed rest vram s (λ (u : State). mode_of u.regs.stat ≡ 3 → P (suc (length rest)) s u)
      (λ e m. more (length rest) allowed s _ (began rest vram t m) (run_cases rest t m)) (λ e m. absurd (e m))

added : (a b c n : ℕ) → a + n ≤ b → b + 1 ≤ c → a + suc n ≤ c
added a b c n h k = omega arith

module _ (coins : List Bool) (vram : List ℕ) (s : State) where
  -- from a steady state each draw lowers the number by one at least
  pub draws_fall : Fine s → Steady s.beam.x s.pipe → mode_of (draws_if coins vram s).regs.stat ≡ 3
      → (left (draws_if coins vram s) + length coins ≤ left s) × Steady (draws_if coins vram s).beam.x (draws_if coins vram s).pipe
  draws_fall f t m =
      run_cases vram
      (λ n s u. Fine s → Steady s.beam.x s.pipe → (left u + n ≤ left s) × Steady u.beam.x u.pipe)
      (λ s f t. (omega arith, t))
      (λ n allowed s u m r f t.
      let c = r (drawn_fine allowed vram s f) (steady_kept allowed vram s t m) in
      let h = falls allowed vram s f t m in
      (added (left u) (left (drawn_if allowed vram s).state) (left s) n c.0 h, c.1))
      coins s m f t

  -- a window once entered stays
  pub draws_window : s.pipe.window ≡ true → mode_of (draws_if coins vram s).regs.stat ≡ 3 → (draws_if coins vram s).pipe.window ≡ true
  draws_window i m =
      run_cases vram (λ n s u. s.pipe.window ≡ true → u.pipe.window ≡ true)
      (λ s i. i) (λ n allowed s u m r i. r (window_kept allowed vram s i m)) coins s m i

  -- the pace is kept
  pub draws_paced : Paced s.pipe → mode_of (draws_if coins vram s).regs.stat ≡ 3 → Paced (draws_if coins vram s).pipe
  draws_paced o m =
      run_cases vram (λ n s u. Paced s.pipe → Paced u.pipe) (λ s o. o)
      (λ n allowed s u m r o. r (paced_kept allowed vram s m)) coins s m o

  -- from any state at its pace: the window is in, or each draw lowered the number by one at least
  pub draws_loose : Fine s → Paced s.pipe → mode_of (draws_if coins vram s).regs.stat ≡ 3
      → ((draws_if coins vram s).pipe.window ≡ true) ⊎ (left (draws_if coins vram s) + length coins ≤ left s)
  draws_loose f o m =
      (run_cases vram
      (λ n s u. Fine s → Paced s.pipe
      → (s.pipe.window ≡ true → u.pipe.window ≡ true) × ((u.pipe.window ≡ true) ⊎ (left u + n ≤ left s)))
      (λ s f o. (λ i. i, inr (omega arith)))
      (λ n allowed s u m r f o.
      let c = r (drawn_fine allowed vram s f) (paced_kept allowed vram s m) in (
        λ i. c.0 (window_kept allowed vram s i m),
        ⊎_elim (λ i. inl (c.0 i))
            (λ h. ⊎_elim (λ i. inl i) (λ k. inr (added (left u) (left (drawn_if allowed vram s).state) (left s) n k h)) c.1)
            (entered_or_falls allowed vram s f o m),
      ))
      coins s m f o).1

-- a run keeps the order
draws_fine : (coins : List Bool) (vram : List ℕ) (s : State) → Fine s → Fine (draws_if coins vram s)
unfolding draws_if
draws_fine [] vram s f = f
draws_fine (allowed ∷ rest) vram s f =
    draws_cases allowed rest vram s Fine (λ m. draws_fine rest vram (drawn_if allowed vram s).state (drawn_fine allowed vram s f)) (λ m. f)

-- a run in mode 3 stays in it, or ended the line
pub draws_end : (coins : List Bool) (vram : List ℕ) (s : State) → Fine s → mode_of s.regs.stat ≡ 3
    → (mode_of (draws_if coins vram s).regs.stat ≡ 3) ⊎ Ended (draws_if coins vram s)
unfolding draws_if
draws_end [] vram s f m = inl m
draws_end (allowed ∷ rest) vram s f m =
    draws_cases allowed rest vram s (λ (u : State). (mode_of u.regs.stat ≡ 3) ⊎ Ended u)
    (λ e. by (eqb (mode_of t.regs.stat) 3) refl (draws_end rest vram t (drawn_fine allowed vram s f))) (λ e. inl m)
  where
    t : State
    t = (drawn_if allowed vram s).state

    by : (d : Bool) → eqb (mode_of t.regs.stat) 3 ≡ d
        → (mode_of t.regs.stat ≡ 3 → (mode_of (draws_if rest vram t).regs.stat ≡ 3) ⊎ Ended (draws_if rest vram t))
        → (mode_of (draws_if rest vram t).regs.stat ≡ 3) ⊎ Ended (draws_if rest vram t)
    by true g r = r (eqb-true _ _ g)
    by false g r = inr (rw (draws_out rest vram t (eqb-false _ _ g)) (ends_at_zero allowed vram s f m (eqb-false _ _ g)))

-- a run of as many draws as are left ends the line
pub line_ends : LineEnds
line_ends coins vram s f t m h =
    ⊎_elim
    (λ k.
    let c = (draws_fall coins vram s f t k).0 in
    let p = left_positive (draws_if coins vram s) (draws_fine coins vram s f).beam.x in
    absurd (over (left (draws_if coins vram s)) (left s) c p h))
    (λ e. e) (draws_end coins vram s f m)
  where
    over : (a b : ℕ) → a + length coins ≤ b → 0 < a → b ≤ length coins → ⊥
    over a b i j k = omega arith
