-- How many lines a sprite touches, and how many sets a write changes.
use Rattle.std.proofs.Common.{◌≡◌, ℕ, zero, suc, ◌+◌, ◌<◌, ◌≤◌, Bool, true, false, cond, not, eqb, List, [], ◌∷◌, length, get_or, sym, refl, ap, ◌∙◌, add-one, arith, length-append, eq-eqb, eqb-true}
use Rattle.hardware.specs.Screen.{height}
use Rattle.sprite.specs.Oam.{in_range}
use Rattle.sprite.specs.Pick.{up_to, those, is_tall}
use Rattle.sprite.proofs.Those.{those_append}
use Rattle.line_sets.specs.Lines.{lines_of, row_line}
use Rattle.line_sets.specs.Numbers.{old_y, new_y}
use Rattle.line_sets.specs.Laws.{FewLines, FewChange}
use Rattle.line_sets.proofs.Lines.{no_row, row_elsewhere}
use Rattle.line_sets.proofs.Accepted.{writes}
use Rattle.logic.proofs.Tests.{by_number}
use Rattle.refusals.proofs.Given.{left_refused}
use Rattle.line_sets.proofs.Laws.{others_stay}

-- how many of 0 to n - 1 pass a test, one by one
passing : (ℕ → Bool) → ℕ → ℕ
passing t n = length (those t (up_to n))

digit : Bool → ℕ
digit v = cond v 1 0

passing_none : (t : ℕ → Bool) → passing t 0 ≡ 0
unfolding passing those up_to
passing_none t = refl

passing_next : (t : ℕ → Bool) (n : ℕ) → passing t (suc n) ≡ passing t n + digit (t n)
unfolding passing digit those up_to
passing_next t n = ap length (those_append t (up_to n) (n ∷ [])) ∙ length-append (those t (up_to n)) (cond (t n) (n ∷ []) []) ∙ ap (λ (k : ℕ). length (those t (up_to n)) + k) (one (t n))
  where
    one : (v : Bool) → length (cond v (n ∷ []) []) ≡ cond v 1 0
    one true = refl
    one false = refl

digit_le : (v : Bool) → digit v ≤ 1
unfolding digit
digit_le true = omega arith
digit_le false = omega arith

-- tests that agree but for one number differ by one at most
passing_same : (t u : ℕ → Bool) (n : ℕ) → ((j : ℕ) → j < n → u j ≡ t j) → passing u n ≡ passing t n
passing_same t u zero h = passing_none u ∙ sym (passing_none t)
passing_same t u (suc n) h = passing_next u n ∙ rw (passing_same t u n (λ j l. h j (omega arith)), h n (omega arith)) (sym (passing_next t n))

passing_more : (t u : ℕ → Bool) (x n : ℕ) → ((j : ℕ) → j < n → (j ≡ x → ⊥) → u j ≡ t j) → passing u n ≤ passing t n + 1
passing_more t u x zero h = rw (passing_none u) (omega arith)
passing_more t u x (suc n) h =
    let nu = passing_next u n in
    let nt = passing_next t n in
    by_number _ n x
    (λ e.
    let same : passing u n ≡ passing t n = passing_same t u n (λ j l. h j (omega arith) (λ z. omega (arith, l, z, e))) in
    let few = digit_le (u n) in
    omega (arith, nu, nt, same, few))
    (λ ne.
    let more = passing_more t u x n (λ j l. h j (omega arith)) in
    let same : digit (u n) ≡ digit (t n) = ap digit (h n (omega arith) ne) in
    omega (arith, nu, nt, more, same))

passing_zero : (t : ℕ → Bool) (n : ℕ) → ((j : ℕ) → j < n → t j ≡ false) → passing t n ≡ 0
unfolding digit
passing_zero t zero h = passing_none t
passing_zero t (suc n) h = passing_next t n ∙ rw (passing_zero t n (λ j l. h j (omega arith)), h n (omega arith)) refl

-- what passes only where one of two others does
either : (a b c : Bool) → (a ≡ false → b ≡ false → c ≡ false) → digit c ≤ digit a + digit b
unfolding digit
either true b c f = let l = digit_le c in omega (arith, l)
either false true c f = let l = digit_le c in omega (arith, l)
either false false c f = rw (f refl refl) (omega arith)

passing_either : (a b c : ℕ → Bool) (n : ℕ) → ((j : ℕ) → j < n → a j ≡ false → b j ≡ false → c j ≡ false)
    → passing c n ≤ passing a n + passing b n
passing_either a b c zero h = rw (passing_none c) (omega arith)
passing_either a b c (suc n) h =
    let rest = passing_either a b c n (λ j l. h j (omega arith)) in
    let one = either (a n) (b n) (c n) (h n (omega arith)) in
    let na = passing_next a n in
    let nb = passing_next b n in
    let nc = passing_next c n in
    omega (arith, rest, one, na, nb, nc)

pub few_lines : FewLines
unfolding lines_of passing
few_lines y zero h = rw (passing_zero (λ line. in_range y line 0) height (λ j l. no_row y j)) (omega arith)
few_lines y (suc tall) h =
    let few = few_lines y tall (omega arith) in
    let more : passing (λ line. in_range y line (tall + 1)) height ≤ passing (λ line. in_range y line tall) height + 1 =
    passing_more (λ line. in_range y line tall) (λ line. in_range y line (tall + 1)) (row_line y tall) height
    (λ j l n. row_elsewhere y tall j (omega arith) (omega (arith, l)) n) in
    rw (← add-one tall) (omega (arith, few, more))

-- a set that changes is that of a line of the old or the new entry
changed : List ℕ → List ℕ → ℕ → Bool
changed sets sets' line = not (eqb (get_or sets' line 0) (get_or sets line 0))

as_before : (sets sets' : List ℕ) (line : ℕ) → get_or sets' line 0 ≡ get_or sets line 0 → changed sets sets' line ≡ false
unfolding changed
as_before sets sets' line e = ap not (eq-eqb (get_or sets' line 0) (get_or sets line 0) e)

tall_at_most : (tall : ℕ) → is_tall tall ≡ true → tall ≤ 16
tall_at_most tall e = by (eqb tall 8) refl
  where
    by : (v : Bool) → eqb tall 8 ≡ v → tall ≤ 16
    by true l = let eight = eqb-true tall 8 l in omega (arith, eight)
    by false l = let sixteen = eqb-true tall 16 (rw l at e) in omega (arith, sixteen)

pub few_change : FewChange
unfolding lines_of passing changed
few_change oam sets tall address value r oam' sets' c =
    by_number _ r 0
    (λ d.
    let w = writes oam sets tall address value (sym c.number ∙ d) in
    let sixteen = tall_at_most tall w.can.tall in
    let old = few_lines (old_y oam address) tall (omega (arith, sixteen)) in
    let new = few_lines (new_y oam address value) tall (omega (arith, sixteen)) in
    let all = passing_either (λ line. in_range (old_y oam address) line tall) (λ line. in_range (new_y oam address value) line tall)
    (changed sets sets') height (λ j l a b. as_before sets sets' j (others_stay oam sets tall address value r oam' sets' c j l a b)) in
    omega (arith, all, old, new, sixteen))
    (λ d.
    let none = passing_zero (changed sets sets') height
    (λ j l. as_before sets sets' j (ap (λ (s : List ℕ). get_or s j 0) (left_refused c.number _ _ c.renewed d))) in
    omega (arith, none))
