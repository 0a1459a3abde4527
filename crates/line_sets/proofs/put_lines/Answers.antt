-- `line_sets::put_lines` meets its contract.
use Rattle.std.proofs.Common.{◌≡◌, ℕ, ◌+◌, ◌<◌, ◌≤◌, Bool, true, false, eqb, List, length, get_or, set, sym, refl, ◌∙◌, arith, length-set, get_or-set_other, get_or-set_same, eqb-true}
use borrow.Author.Tests.{eqb-false}
use Rattle.hardware.specs.Screen.{height}
use Rattle.line_sets.specs.Sets.{is_set, put}
use Rattle.line_sets.specs.Lines.{row_line, put_on, put_lines}
use Rattle.line_sets.specs.Numbers.{are_sets}
use Rattle.line_sets.proofs.Lines.{no_row, row_reached, row_elsewhere, row_touches, per_line_law, are_sets_at}
use Rattle.line_sets.proofs.put_lines.Invariants.{PutTo}
use Rattle.line_sets.proofs.put_lines.Goals.{then-line-lt-HEIGHT, else-line-lt-HEIGHT}
use Rattle.line_sets.proofs.put_lines.Goals as goal

put_none : (sets : List ℕ) (i : ℕ) (on : Bool) (y : ℕ) → PutTo sets i on y 0 sets
unfolding PutTo
put_none sets i on y line h = rw (no_row y line)

-- one row more, on its line
module _ (sets₀ : List ℕ) (i : ℕ) (on : Bool) (y row own : ℕ) (sets : List ℕ) (small : row < 256) (its : own ≡ row_line y row)
    (before : PutTo sets₀ i on y row sets) where
  -- its set is as it was
  unput : own < height → get_or sets own 0 ≡ get_or sets₀ own 0
  unfolding PutTo
  unput h = before own h ∙ rw (row_reached y row own small its).0

  put_set : (tall : ℕ) → row < tall → are_sets sets₀ y tall ≡ true → own < height → is_set (get_or sets own 0) ≡ true
  put_set tall l e h = rw (unput h) (are_sets_at sets₀ y tall own h e (row_touches y row own small tall l its))

  -- and then it is put, or it is below the picture
  put_more : length sets ≡ height → own < height → PutTo sets₀ i on y (row + 1) (set sets own (put i on (get_or sets own 0)))
  unfolding PutTo
  put_more l here line h = by (eqb line own) refl
    where
      by : (v : Bool) → eqb line own ≡ v
          → get_or (set sets own (put i on (get_or sets own 0))) line 0 ≡ put_on i on y (row + 1) sets₀ line
      by true e =
          let same = eqb-true line own e in
          rw (same, (row_reached y row own small its).1, get_or-set_same sets own (put i on (get_or sets own 0)) 0 (rw l here), unput here)
      by false e =
          let other = eqb-false line own e in
          get_or-set_other sets own line (put i on (get_or sets own 0)) 0 other
          ∙ before line h ∙ rw (row_elsewhere y row line small (omega (arith, h)) (λ z. other (z ∙ sym its)))

  put_below : height ≤ own → PutTo sets₀ i on y (row + 1) sets
  unfolding PutTo
  put_below below line h = before line h ∙ rw (row_elsewhere y row line small (omega (arith, h)) (λ z. omega (arith, h, below, its, z)))

put_through : (sets₀ : List ℕ) (i : ℕ) (on : Bool) (y tall : ℕ) (sets : List ℕ) → length sets ≡ height → PutTo sets₀ i on y tall sets
    → sets ≡ put_lines i on y tall sets₀
unfolding PutTo put_lines
put_through sets₀ i on y tall sets l h = per_line_law (put_on i on y tall sets₀) sets l h

pub loop-row-init : goal.loop-row-init
loop-row-init c = (omega arith, omega arith, put_none _ _ _ _)

pub invariant_of-set : goal.invariant_of-set
invariant_of-set c =
    let its = c.from-line.ensures ∙ c.row_line.ensures in
    record {
      of_entries =
          put_set _ _ _ _ _ _ _ (omega arith) its c.loop-row.invariant.2 c.args.tall (omega arith) c.requires.1
          (omega (arith, c.if-line-lt-HEIGHT.true));
    }

pub loop-row-preserved : goal.loop-row-preserved
loop-row-preserved c =
    let its = c.from-line.ensures ∙ c.row_line.ensures in
    elim c.if-line-lt-HEIGHT.branch [
      | then-line-lt-HEIGHT w ↦ (
        omega arith,
        rw w.sets-is (simp length-set (omega arith)),
        rw (w.sets-is, w.put.ensures)
            (put_more _ _ _ _ _ _ _ (omega arith) its c.loop-row.invariant.2 (omega arith) (omega (arith, w.if-line-lt-HEIGHT.true))),
      )
      | else-line-lt-HEIGHT w ↦ (
        omega arith,
        rw w.sets-is (omega arith),
        rw w.sets-is (put_below _ _ _ _ _ _ _ (omega arith) its c.loop-row.invariant.2 (omega (arith, w.if-line-lt-HEIGHT.false))),
      )
    ]

pub returns : goal.returns
returns c =
    let a = c.args in
    let full : c.loop-row.row ≡ a.tall = omega arith in
    rw full at (put_through _ _ _ _ _ _ (omega arith) c.loop-row.invariant.2)
