-- One step of a display that is on: it keeps the order; the count, the phase, and that mode 3 is over where line 143 ends.
use mathlib.Core.Path.{◌≡◌, refl, ap₂, ◌∙◌}
use mathlib.Core.Bool.{Bool, true, false, cond, ◌&&◌}
use mathlib.Core.List.{List, [], ◌++◌}
use Prim.Native.Nat.{ℕ, ◌+◌, ◌%◌, ◌<◌}
use native.Mathlib.Omega.{arith}
use borrow.Author.Tests.{eqb-true, eqb-false}
use lib.Dec.{eqb}
use lib.ListN.{length}
use Rattle.logic.proofs.Tests.{by_test}
use Rattle.hardware.specs.Screen.{height, line_cycles}
use Rattle.hardware.specs.Tables.{Tables}
use Rattle.state.specs.With.{mode_of}
use Rattle.state.specs.declared.Beam.{Beam}
use Rattle.state.specs.declared.State.{State}
use Rattle.order.specs.Fine.{Fine}
use Rattle.burst.specs.Burst.{burst}
use Rattle.modes.specs.Modes.{entered, searched, compared}
use Rattle.modes.proofs.Fine.{compared_mode}
use Rattle.beam.specs.Advance.{swaps, onward, next_line, next_frame, advanced}
use Rattle.beam.proofs.Ways.{advanced_cases, advanced_part}
use Rattle.beam.proofs.Fine.{advance_fine}
use Rattle.step.specs.Step.{lit, working, settled, stepped}
use Rattle.step.proofs.Keeps.{ready_fine, settled_fine, settled_same}
use Rattle.terms.proofs.Pace.{Pace}
use Rattle.bound.proofs.Potential.{left_positive}
use Rattle.history.specs.Stored.{stored_by, numbers}
use Rattle.history.proofs.Places.{burst_ran, burst_idle}
use Rattle.history.proofs.Views.{ready_count}
use Rattle.history.proofs.Phase.{Base, swap_base, Mid, PhaseOf, MidOf, worked}
use Rattle.history.proofs.Onward.{onward_phase}

-- a step keeps the order, unless it carries mode 3 out of the last visible line
pub stepped_fine : (n : ℕ) (lent : Tables) (s : State) → Pace s.beam.cycle n → Fine s
    → (s.beam.line + 1 ≡ height → s.beam.cycle + n ≡ line_cycles → mode_of (settled n lent s).regs.stat ≡ 3 → ⊥) → Fine (stepped n lent s)
unfolding stepped
stepped_fine n lent s pace f over =
    let same = settled_same n lent s in
    let b = f.beam in
    by_test Fine (lit s)
    (λ on. advance_fine n (settled n lent s) (rw same.cycle (pace.even b.even))
    (rw same.cycle (pace.fits b.even b.cycle)) (settled_fine n lent s f)
    (λ l e m. over (omega (arith, same.line)) (omega (arith, same.cycle)) m))
    (λ off. f)

-- the comparison keeps where the beam stands
compared_mid : (level : Bool) (s : State) {base : Base} {n : ℕ} {l : List ℕ} → MidOf base n s l → MidOf base n (compared level s) l
unfolding compared
compared_mid level s k = rw (compared_mode level s) k

-- mode 3 is over where line 143 ends
pub mid_ends : {base : Base} {n : ℕ} {s : State} {l : List ℕ} → Fine s → MidOf base n s l → s.beam.line + 1 ≡ height → s.beam.cycle + n ≡ line_cycles
    → mode_of s.regs.stat ≡ 3 → ⊥
mid_ends f (Mid.before m low line e up) at end z = m z
mid_ends {s = s} f (Mid.tight m low line t h up) at end z = let p = left_positive s f.beam.x in omega arith
mid_ends f (Mid.loose o m low line p h up) at end z = omega arith
mid_ends f (Mid.ended m low line x up) at end z = m z
mid_ends f (Mid.rest m line x up) at end z = m z

-- a swap sets the count 0
pub advanced_count : (n : ℕ) (s : State) → (advanced n s).beam.count ≡ cond (swaps n s.beam) 0 s.beam.count
advanced_count n s = advanced_part (λ (b : Beam). b.count) (λ k. 0) n s refl refl refl

-- line 0, cycle 0 is where a swap leaves the beam
pub advanced_origin : (n : ℕ) (s : State) → 0 < n → (advanced n s).beam.line ≡ 0 → (advanced n s).beam.cycle ≡ 0 → swaps n s.beam ≡ true
advanced_origin n s some =
    advanced_cases n s (λ (b : Bool) (u : State). u.beam.line ≡ 0 → u.beam.cycle ≡ 0 → b ≡ true)
    (λ e line cycle. absurd (omega arith)) (λ e g line cycle. absurd (omega arith)) (λ e g line cycle. refl)

module _ (n : ℕ) (lent : Tables) (s : State) (f : Fine s) (c : s.beam.count < 65536) where
  worked_count : (working n lent s).state.beam.count ≡ (s.beam.count + length (stored_by (working n lent s).shots)) % 65536
  unfolding working
  worked_count = by (eqb (mode_of r.regs.stat) 3) refl
    where
      r : State
      r = searched lent.oam (entered s)

      same : r.beam.count ≡ s.beam.count
      same = ready_count lent.oam s

      by : (b : Bool) → eqb (mode_of r.regs.stat) 3 ≡ b
          → (burst n lent.vram r).state.beam.count ≡ (s.beam.count + length (stored_by (burst n lent.vram r).shots)) % 65536
      by true e = let q = burst_ran n lent.vram r (ready_fine lent.oam s f) (eqb-true _ _ e) (omega (arith, same)) in omega (arith, q.count, same)
      by false e = let o = burst_idle n lent.vram r (eqb-false _ _ e) in rw (o.0, o.1) (omega (arith, same))

  pub settled_count : (settled n lent s).beam.count ≡ (s.beam.count + length (stored_by (working n lent s).shots)) % 65536
  unfolding settled compared
  settled_count = worked_count

pub settled_swaps : (n : ℕ) (lent : Tables) (s : State) → swaps n (settled n lent s).beam ≡ swaps n s.beam
settled_swaps n lent s = let same = settled_same n lent s in rw (same.cycle, same.line) refl

-- a part of the beam that only a swap changes, over a step
pub stepped_part : {A : Type 0} (part : Beam → A) (next : A → A) (n : ℕ) (lent : Tables) (s : State)
    → ((b : Beam) → part (onward n b) ≡ part b) → ((b : Beam) → part (next_line b) ≡ part b) → ((b : Beam) → part (next_frame b) ≡ next (part b))
    → part (settled n lent s).beam ≡ part s.beam
    → part (stepped n lent s).beam ≡ cond (lit s && swaps n s.beam) (next (part s.beam)) (part s.beam)
unfolding stepped
stepped_part {A} part next n lent s within line frame same = by (lit s)
  where
    u : Beam
    u = (settled n lent s).beam

    by : (b : Bool) → part (cond b (advanced n (settled n lent s)) s).beam ≡ cond (b && swaps n s.beam) (next (part s.beam)) (part s.beam)
    by true =
        advanced_part part next n (settled n lent s) (within u) (line u) (frame u)
        ∙ ap₂ (λ (b : Bool) (k : A). cond b (next k) k) (settled_swaps n lent s) same
    by false = refl

module _ {base : Base} (n : ℕ) (lent : Tables) (s : State) (f : Fine s) (c : s.beam.count < 65536) (pace : Pace s.beam.cycle n)
    {l : List ℕ} (p : PhaseOf base s l) where
  -- before the cycle advances
  pub step_mid : MidOf base n (settled n lent s) (l ++ numbers (stored_by (working n lent s).shots))
  unfolding settled
  step_mid = compared_mid _ _ (worked base n lent s f pace c p)

  -- and after
  pub step_phase : PhaseOf (cond (swaps n s.beam) swap_base base) (advanced n (settled n lent s))
      (cond (swaps n s.beam) [] (l ++ numbers (stored_by (working n lent s).shots)))
  step_phase =
      rw (settled_swaps n lent s) at (onward_phase base n (settled n lent s) (settled_fine n lent s f) pace.some step_mid)
