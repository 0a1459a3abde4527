-- Entries that pass a test: one more of them, and all of them.
use mathlib.Core.Path.{◌≡◌, refl, ap, ◌∙◌}
use mathlib.Core.Bool.{Bool, true, false, cond}
use mathlib.Core.List.{List, [], ◌∷◌, ◌++◌, append-nil}
use Prim.Native.Nat.{ℕ, zero, suc, ◌+◌, ◌<◌}
use native.Mathlib.Numerals.{add-one}
use native.Mathlib.Omega.{arith}
use Rattle.sprite.specs.Pick.{up_to, those, lowest_ten, touches}

-- one entry more
pub up_to_more : (n : ℕ) → up_to (n + 1) ≡ up_to n ++ n ∷ []
unfolding up_to
up_to_more n = rw add-one

-- a test keeps what it keeps of either part
pub those_append : (t : ℕ → Bool) (a b : List ℕ) → those t (a ++ b) ≡ those t a ++ those t b
unfolding those
those_append t [] b = refl
those_append t (x ∷ a) b = step (t x) (those_append t a b)
  where
    step : (v : Bool) → those t (a ++ b) ≡ those t a ++ those t b
        → cond v (x ∷ those t (a ++ b)) (those t (a ++ b)) ≡ cond v (x ∷ those t a) (those t a) ++ those t b
    step true e = ap (λ (l : List ℕ). x ∷ l) e
    step false e = e

those_one : (t : ℕ → Bool) (x : ℕ) → those t (x ∷ []) ≡ cond (t x) (x ∷ []) []
unfolding those
those_one t x = refl

module _ (t : ℕ → Bool) (i : ℕ) where
  pub those_in : t i ≡ true → those t (up_to (i + 1)) ≡ those t (up_to i) ++ i ∷ []
  those_in e = rw (up_to_more, those_append, those_one, e)

  pub those_out : t i ≡ false → those t (up_to (i + 1)) ≡ those t (up_to i)
  those_out e = rw (up_to_more, those_append, those_one, e, append-nil)

-- where every one passes, all of them
those_all : (t : ℕ → Bool) (n : ℕ) → ((i : ℕ) → i < n → t i ≡ true) → those t (up_to n) ≡ up_to n
unfolding up_to those
those_all t zero h = refl
those_all t (suc n) h =
    those_append t (up_to n) (n ∷ []) ∙ rw (those_all t n (λ i k. h i (omega arith)), h n (omega arith)) refl

-- all forty in range: the first ten
pub first_ten : (oam : List ℕ) (line tall : ℕ) → ((i : ℕ) → i < 40 → touches oam line tall i ≡ true)
    → lowest_ten oam line tall ≡ 0 ∷ 1 ∷ 2 ∷ 3 ∷ 4 ∷ 5 ∷ 6 ∷ 7 ∷ 8 ∷ 9 ∷ []
unfolding lowest_ten up_to
first_ten oam line tall h = rw (those_all (touches oam line tall) 40 h) refl
