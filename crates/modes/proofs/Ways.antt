-- The ways of a mode that begins and of the search: what holds of each result holds of the part.
use mathlib.Core.Path.{◌≡◌, refl}
use mathlib.Core.Bool.{Bool, true, false, not, ◌&&◌, ◌||◌, and-false, or-true}
use mathlib.Core.List.{List}
use Prim.Native.Nat.{ℕ, ◌≤◌, ◌<◌}
use native.Mathlib.Omega.{arith}
use borrow.Author.Tests.{eqb-true, ltb-true, eq-eqb, ne_eqb, lt-ltb}
use lib.Dec.{eqb, ltb}
use Rattle.logic.proofs.Tests.{by_test, clash}
use Rattle.logic.proofs.Both.{both, first, split}
use Rattle.hardware.specs.Screen.{height}
use Rattle.state.specs.With.{mode_of}
use Rattle.state.specs.declared.Beam.{Beam}
use Rattle.state.specs.declared.State.{State}
use Rattle.modes.specs.Modes.{stands, begins, scans, renders, rests, scanned, rendered, rested, entered, selected, searched}

-- where mode 2 begins, and that it does
scans_at : (b : Beam) → scans b ≡ true → (b.line < height) × (b.cycle ≤ 4)
unfolding scans
scans_at b = by (ltb b.line height && eqb b.cycle 0) (λ e. e) (stands b 0 4) (λ e. e) (not b.turned)
  where
    by : (u : Bool) → (u ≡ true → ltb b.line height && eqb b.cycle 0 ≡ true) → (v : Bool) → (v ≡ true → stands b 0 4 ≡ true)
        → (w : Bool) → u || (v && w) ≡ true → (b.line < height) × (b.cycle ≤ 4)
    by true f v g w e =
        let p = split _ _ (f refl) in
        let line : b.line < height = ltb-true _ _ p.0 in
        let cycle : b.cycle ≡ 0 = eqb-true _ _ p.1 in
        (line, omega arith)
    by false f v g w e =
        let p = split _ _ (g (first v w e)) in
        let line : b.line ≡ 0 = eqb-true _ _ p.0 in
        let cycle : b.cycle ≡ 4 = eqb-true _ _ p.1 in
        (omega arith, omega arith)

scans_there : (b : Beam) → b.line < height → b.cycle ≡ 0 → scans b ≡ true
unfolding scans
scans_there b l c = rw (lt-ltb _ _ l, eq-eqb _ _ c) refl

renders_there : (b : Beam) → b.line < height → b.cycle ≡ 80 → renders b ≡ true
unfolding renders
renders_there b l c = both (lt-ltb _ _ l) (eq-eqb _ _ c)

renders_at : (b : Beam) → renders b ≡ true → (b.line < height) × (b.cycle ≡ 80)
unfolding renders
renders_at b e = let p = split _ _ e in (ltb-true _ _ p.0, eqb-true _ _ p.1)

-- mode 2, mode 3 or mode 1 begins, or none
pub entered_cases : (P : State → Type 0) (s : State)
    → (s.beam.line < height → s.beam.cycle ≤ 4 → P (scanned s))
    → (s.beam.line < height → s.beam.cycle ≡ 80 → P (rendered s))
    → (s.beam.line ≡ height → s.beam.cycle ≡ 4 → P (rested s))
    → ((s.beam.line < height → s.beam.cycle ≡ 0 → ⊥) → (s.beam.line < height → s.beam.cycle ≡ 80 → ⊥) → P s)
    → P (entered s)
unfolding entered
entered_cases P s scan render rest same =
    let b = s.beam in
    by_test P (scans b) (λ e. let at = scans_at b e in scan at.0 at.1)
    (λ e. by_test P (renders b) (λ r. let at = renders_at b r in render at.0 at.1)
    (λ r. by_test P (rests b) (λ h. let at = split _ _ h in rest (eqb-true _ _ at.0) (eqb-true _ _ at.1))
    (λ h. same (λ l c. clash (scans_there b l c) e) (λ l c. clash (renders_there b l c) r))))

-- the line is searched, or the selection stays
pub searched_cases : (P : State → Type 0) (oam : List ℕ) (s : State) → P (selected oam s) → P s → P (searched oam s)
unfolding searched
searched_cases P oam s found same =
    by_test P (eqb (mode_of s.regs.stat) 2 && eqb s.beam.cycle 4) (λ e. found) (λ e. same)

-- where no mode can begin the state stays, and no line is searched
module _ (s : State) (none : begins s.beam ≡ false) where
  away : (k : ℕ) → (eqb s.beam.cycle k ≡ true → begins s.beam ≡ true) → s.beam.cycle ≡ k → ⊥
  away k h e = clash (h (eq-eqb _ _ e)) none

  away_0 : s.beam.cycle ≡ 0 → ⊥
  away_0 = away 0 (λ e. rw (e, or-true, or-true) refl)

  away_4 : s.beam.cycle ≡ 4 → ⊥
  away_4 = away 4 (λ e. rw (e, or-true) refl)

  away_80 : s.beam.cycle ≡ 80 → ⊥
  away_80 = away 80 (λ e. rw e refl)

  scans_none : scans s.beam ≡ false
  unfolding scans
  scans_none = rw (ne_eqb _ _ away_0, ne_eqb _ _ away_4, and-false, and-false) refl

  renders_none : renders s.beam ≡ false
  unfolding renders
  renders_none = rw (ne_eqb _ _ away_80, and-false) refl

  pub entered_none : entered s ≡ s
  unfolding entered
  entered_none = rw (scans_none, renders_none, ne_eqb _ _ away_4, and-false)

  pub searched_none : (oam : List ℕ) → searched oam s ≡ s
  unfolding searched
  searched_none oam = rw (ne_eqb _ _ away_4, and-false)
