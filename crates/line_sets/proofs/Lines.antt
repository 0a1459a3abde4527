-- The lines of the picture, the rows of a sprite on them, and a number a line.
use Rattle.std.proofs.Common.{◌≡◌, ℕ, zero, suc, ◌+◌, ◌-◌, ◌<◌, ◌≤◌, Bool, true, false, cond, not, ◌&&◌, ◌||◌, ltb, List, [], ◌∷◌, length, get_or, sym, refl, ap, ◌∙◌, ⊎_elim, le_of_suc-le-suc, mod-lt, eq-or-lt_of_le, add-one, arith, lit<, length-append, ext_get_or, ltb-false, ltb-true, le-ltb, lt-ltb}
use lib.ListN.{length-map, get_or-append}
use lib.Seq.{get_or_at}
use Rattle.logic.specs.Every.{every}
use Rattle.logic.proofs.Every.{every_at, every_all}
use Rattle.logic.proofs.Mapped.{map_at}
use Rattle.logic.proofs.Tests.{clash}
use Rattle.wrap.specs.Wrap.{minus}
use Rattle.hardware.specs.Screen.{height}
use Rattle.sprite.specs.Oam.{screen_y, in_range}
use Rattle.sprite.specs.Pick.{up_to, those}
use Rattle.line_sets.specs.Sets.{is_set}
use Rattle.line_sets.specs.Lines.{per_line, row_line, lines_of}
use Rattle.line_sets.specs.Numbers.{are_sets}

-- 0 to n - 1, each at its place
pub up_to_length : (n : ℕ) → length (up_to n) ≡ n
unfolding up_to
up_to_length zero = refl
up_to_length (suc n) = length-append (up_to n) (n ∷ []) ∙ rw (up_to_length n) (add-one n)

pub up_to_at : (n k d : ℕ) → k < n → get_or (up_to n) k d ≡ k
unfolding up_to
up_to_at zero k d h = absurd (omega arith)
up_to_at (suc n) k d h =
    ⊎_elim
    (λ e. rw e (get_or_at (up_to n) n [] d n (up_to_length n)))
    (λ l. get_or-append (up_to n) (n ∷ []) d k (rw (up_to_length n) l) ∙ up_to_at n k d l)
    (eq-or-lt_of_le (le_of_suc-le-suc h))

-- a number a line: how many, and each
module _ (f : ℕ → ℕ) where
  pub per_line_length : length (per_line f) ≡ height
  per_line_length = length-map (up_to height) f ∙ up_to_length height

  pub per_line_at : (line : ℕ) → line < height → get_or (per_line f) line 0 ≡ f line
  per_line_at line h = map_at f (up_to height) line 0 0 (rw (up_to_length height) h) ∙ ap f (up_to_at height line 0 h)

  pub per_line_law : (sets : List ℕ) → length sets ≡ height → ((line : ℕ) → line < height → get_or sets line 0 ≡ f line) → sets ≡ per_line f
  per_line_law sets l h =
      ext_get_or 0 sets (per_line f) (l ∙ sym per_line_length)
      (λ k j. let i : k < height = rw l at j in h k i ∙ sym (per_line_at k i))

-- a row is on its own line, and no other line
module _ (y row : ℕ) (small : row < 256) where
  row_here : minus (row_line y row) (screen_y y) ≡ row
  row_here = omega (arith, mod-lt (y + 256 - 16) {m = 256} (lit< tt))

  row_only : (line : ℕ) → line < 256 → minus line (screen_y y) ≡ row → line ≡ row_line y row
  row_only line h e = omega (arith, e, mod-lt (y + 256 - 16) {m = 256} (lit< tt))

pub ltb_more : (m n : ℕ) → (m ≡ n → ⊥) → ltb m (n + 1) ≡ ltb m n
ltb_more m n h = by (ltb m n) refl
  where
    by : (v : Bool) → ltb m n ≡ v → ltb m (n + 1) ≡ v
    by true e = let l = ltb-true m n e in lt-ltb m (n + 1) (omega (arith, l))
    by false e = let l = ltb-false m n e in le-ltb m (n + 1) (above l)
      where
        above : n ≤ m → n + 1 ≤ m
        above l = ⊎_elim (λ z. absurd (h (sym z))) (λ z. omega (arith, z)) (eq-or-lt_of_le l)

-- so the next row is on one line more
module _ (y row line : ℕ) (small : row < 256) where
  pub row_reached : line ≡ row_line y row → (in_range y line row ≡ false) × (in_range y line (row + 1) ≡ true)
  row_reached e =
      let here : minus line (screen_y y) ≡ row = rw e (row_here y row small) in
      (le-ltb (minus line (screen_y y)) row (omega (arith, here)), lt-ltb (minus line (screen_y y)) (row + 1) (omega (arith, here)))

  pub row_elsewhere : line < 256 → (line ≡ row_line y row → ⊥) → in_range y line (row + 1) ≡ in_range y line row
  row_elsewhere h n = ltb_more (minus line (screen_y y)) row (λ z. n (row_only y row small line h z))

  pub row_touches : (tall : ℕ) → row < tall → line ≡ row_line y row → in_range y line tall ≡ true
  row_touches tall l e =
      let here : minus line (screen_y y) ≡ row = rw e (row_here y row small) in
      lt-ltb (minus line (screen_y y)) tall (omega (arith, here, l))

-- no row, no line
pub no_row : (y line : ℕ) → in_range y line 0 ≡ false
no_row y line = le-ltb (minus line (screen_y y)) 0 (omega arith)

-- the numbers of the lines that a sprite touches are sets: each of them, and from each
those_every : (p t : ℕ → Bool) (l : List ℕ) → every p (those t l) ≡ every (λ x. not (t x) || p x) l
unfolding every those
those_every p t [] = refl
those_every p t (x ∷ l) = one (t x) (those_every p t l)
  where
    one : (v : Bool) → every p (those t l) ≡ every (λ x. not (t x) || p x) l
        → every p (cond v (x ∷ those t l) (those t l)) ≡ (not v || p x) && every (λ x. not (t x) || p x) l
    one true e = ap (λ (w : Bool). p x && w) e
    one false e = e

module _ (sets : List ℕ) (y tall : ℕ) where
  other_or_set : ℕ → Bool
  other_or_set line = not (in_range y line tall) || is_set (get_or sets line 0)

  pub are_sets_all : ((line : ℕ) → line < height → in_range y line tall ≡ true → is_set (get_or sets line 0) ≡ true) → are_sets sets y tall ≡ true
  unfolding lines_of other_or_set
  are_sets_all h =
      those_every (λ line. is_set (get_or sets line 0)) (λ line. in_range y line tall) (up_to height)
      ∙ every_all other_or_set (up_to height) 0 each
    where
      either : (v w : Bool) → (v ≡ true → w ≡ true) → not v || w ≡ true
      either true w f = f refl
      either false w f = refl

      each : (k : ℕ) → k < length (up_to height) → other_or_set (get_or (up_to height) k 0) ≡ true
      each k j = let i : k < height = rw (up_to_length height) at j in rw (up_to_at height k 0 i) (either (in_range y k tall) (is_set (get_or sets k 0)) (h k i))

  pub are_sets_at : (line : ℕ) → line < height → are_sets sets y tall ≡ true → in_range y line tall ≡ true → is_set (get_or sets line 0) ≡ true
  unfolding lines_of other_or_set
  are_sets_at line h e r =
      let all = sym (those_every (λ line. is_set (get_or sets line 0)) (λ line. in_range y line tall) (up_to height)) ∙ e in
      let one = every_at other_or_set (up_to height) line 0 (rw (up_to_length height) h) all in
      rw (up_to_at height line 0 h, r) at one

  pub are_sets_fails : (line : ℕ) → line < height → in_range y line tall ≡ true → is_set (get_or sets line 0) ≡ false → are_sets sets y tall ≡ false
  are_sets_fails line h r f = by (are_sets sets y tall) refl
    where
      by : (v : Bool) → are_sets sets y tall ≡ v → v ≡ false
      by true e = absurd (clash (are_sets_at line h e r) f)
      by false e = refl
