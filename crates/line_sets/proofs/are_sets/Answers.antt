-- `line_sets::are_sets` meets its contract.
use Rattle.std.proofs.Common.{◌≡◌, ℕ, zero, suc, ◌+◌, ◌<◌, Bool, true, false, ◌||◌, ◌&&◌, eqb, leb, List, get_or, sym, refl, ◌∙◌, arith, eqb-true, rules}
use borrow.Author.Tests.{tests, eqb-false}
use Rattle.std.specs.List.{list_all, range_with_len}
use Rattle.std.proofs.lemmas.Bool.{leb-true, leb-false}
use Rattle.std.proofs.lemmas.Iterator.{YieldsList-from_range}
use Rattle.std.proofs.lemmas.Iterator.Search.{all_from_yields_List}
use Rattle.logic.proofs.Tests.{clash}
use Rattle.hardware.specs.Screen.{height}
use Rattle.sprite.specs.Oam.{in_range}
use Rattle.line_sets.specs.Sets.{is_set}
use Rattle.line_sets.specs.Lines.{row_line}
use Rattle.line_sets.specs.Numbers.{are_sets}
use Rattle.line_sets.proofs.Lines.{no_row, row_elsewhere, row_touches, are_sets_all, are_sets_fails}
use Rattle.line_sets.proofs.are_sets.Goals as goal

module _ (sets : List ℕ) (y : ℕ) where
  -- the test of a row: its line is below the picture, or the line's number a set
  abbrev fits : ℕ → Bool
  fits row = leb height (row_line y row) || is_set (get_or sets (row_line y row) 0)

  passes : (row : ℕ) → fits row ≡ true → row_line y row < height → is_set (get_or sets (row_line y row) 0) ≡ true
  passes row e h = by (leb height (row_line y row)) refl
    where
      by : (v : Bool) → leb height (row_line y row) ≡ v → is_set (get_or sets (row_line y row) 0) ≡ true
      by true b = let low = leb-true _ _ b in absurd (omega (arith, low, h))
      by false b = rw b at e

  fails : (row : ℕ) → fits row ≡ false → (row_line y row < height) × (is_set (get_or sets (row_line y row) 0) ≡ false)
  fails row e = by (leb height (row_line y row)) refl
    where
      by : (v : Bool) → leb height (row_line y row) ≡ v → (row_line y row < height) × (is_set (get_or sets (row_line y row) 0) ≡ false)
      by true b = absurd (clash (rw b refl) e)
      by false b = (leb-false _ _ b, rw b at e)

  -- the numbers of the lines that the first rows touch are sets
  unfoldable SetsTo : ℕ → Type 0
  SetsTo row = (line : ℕ) → line < height → in_range y line row ≡ true → is_set (get_or sets line 0) ≡ true

  sets_none : SetsTo 0
  unfolding SetsTo
  sets_none line h r = absurd (clash r (no_row y line))

  -- one row more, on its line
  sets_more : (row : ℕ) → row < 256 → (row_line y row < height → is_set (get_or sets (row_line y row) 0) ≡ true) → SetsTo row → SetsTo (row + 1)
  unfolding SetsTo
  sets_more row small is before line h r = by (eqb line (row_line y row)) refl
    where
      by : (v : Bool) → eqb line (row_line y row) ≡ v → is_set (get_or sets line 0) ≡ true
      by true e = let same = eqb-true line (row_line y row) e in rw same (is (rw same at h))
      by false e = before line h (sym (row_elsewhere y row line small (omega (arith, h)) (eqb-false line (row_line y row) e)) ∙ r)

  -- all rows, from one on
  module _ (tall : ℕ) (small : tall < 256) where
    all_rows : (n row : ℕ) → row + n ≡ tall → SetsTo row → list_all fits (range_with_len row n) ≡ are_sets sets y tall
    unfolding SetsTo
    all_rows zero row e w =
        let same : row ≡ tall = omega (arith, e) in
        sym (are_sets_all sets y tall (rw same at w))
    all_rows (suc n) row e w =
        by (fits row) refl (λ t. all_rows n (row + 1) (omega (arith, e)) (sets_more row (omega (arith, e, small)) (passes row t) w))
      where
        by : (v : Bool) → fits row ≡ v → (fits row ≡ true → list_all fits (range_with_len (row + 1) n) ≡ are_sets sets y tall)
            → v && list_all fits (range_with_len (row + 1) n) ≡ are_sets sets y tall
        by true t others = others t
        by false t others =
            let f = fails row t in
            sym (are_sets_fails sets y tall (row_line y row) f.0 (row_touches y row (row_line y row) (omega (arith, e, small)) tall (omega (arith, e)) refl) f.1)

pub returns : goal.returns
returns c =
    let a = c.args in
    all_from_yields_List (fits a.sets.now a.y) _ _ c.all.result c.all.ensures.ran
    (YieldsList-from_range 0 a.tall a.tall refl (omega arith))
    (λ x b q k. search (rules, tests))
    ∙ all_rows a.sets.now a.y a.tall (omega (arith, c.ranges.tall)) a.tall 0 (omega arith) (sets_none _ _)
